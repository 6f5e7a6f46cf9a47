use Rattle.moo_cells.{proofs.Words.{◌≡◌, ◌∙◌, ℕ, sym, petition_head_cells, IsCounter, by_rowid, ReadsCounter}, proofs.Exits.{both_some}, proofs.HeadLemmas.{one_row, no_counter, counter_read}}
use Rattle.moo_cells.proofs.counter.read_counter.Goals as goal

pub returns-then-rows-ne1-clause-none : goal.returns-then-rows-ne1-clause-none
returns-then-rows-ne1-clause-none c = no_counter c.args.version (sym c.has_petitions.ensures ∙ c.if-not-has_petitions.false) c.args.rows.now c.requires c.if-rows-ne1.true

pub returns-clause-some : goal.returns-clause-some
returns-clause-some c =
    let r = c.index-rows-0.result in
    let whole = one_row c.args.rows.now r c.if-rows-ne1.false c.index-rows-0.is in
    both_some (λ (next : ℕ). r ≡ petition_head_cells next) IsCounter (ReadsCounter c.args.version (by_rowid c.args.rows.now)) c.counter_of.result c.counter_of.ensures.some c.counter_of.ensures.within
    (counter_read c.args.version (sym c.has_petitions.ensures ∙ c.if-not-has_petitions.false) c.args.rows.now r whole)
