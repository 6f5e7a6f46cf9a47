use Rattle.moo_tables.{proofs.Words.{sym, ap, subst, ◌∙◌, ◌++◌, append-nil}, specs.Listing.{ListsTable}}
use Rattle.moo_tables.proofs.reading.cells_of.Goals as goal

pub returns-clause-listed : goal.returns-clause-listed
returns-clause-listed g c clean tables was is =
    let it = c.in_ok-whole.ensures.taken (sym (append-nil _)) c.if-not-whole.false in
    subst (λ rows. ListsTable c.args.table rows tables) (sym (it.1 ∙ ap (λ l. l ++ it.0) c.new.ensures.items)) (it.2 clean tables was is)
