use Rattle.moo_memory.{proofs.Words.{sym, ◌∙◌, subst, rules, get, contents, row_over, IsChanges}, proofs.Changing.{nothing-changed}}
use Rattle.moo_memory.proofs.changes.changed_rows.Goals as goal
use Rattle.std.proofs.lemmas.List.{nil_from_length}

pub returns-then-is_empty : goal.returns-then-is_empty
returns-then-is_empty g c =
    let none = nil_from_length c.args.changes.entries (c.is_empty.ensures.0 (search rules)) in
    subst (IsChanges g.V.Key.Ord.cmp (get (g.V.KeyedRow.map_of (g.R.Rows.held c.args.base.now).maps)) (row_over (get (g.V.KeyedRow.map_of (g.R.Rows.held c.args.base.now).maps)) (contents g.V.Key.Ord.cmp c.args.changes)))
    (sym (c.from_vec.ensures ∙ c.new.ensures.items)) (nothing-changed g.met.V.Key.Ord.total (get (g.V.KeyedRow.map_of (g.R.Rows.held c.args.base.now).maps)) c.args.changes none)
