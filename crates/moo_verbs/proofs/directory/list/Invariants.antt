use Rattle.moo_verbs.{proofs.Words.{◌≡◌, ◌++◌, map, verbs_of_left}, proofs.Entries.{Entry}, proofs.Found.{walk}}
use Rattle.moo_verbs.proofs.directory.list.Given as goal

-- the names so far, and those of the verbs that are left
abbrev pub invariant-loop-row : goal.invariant-loop-row
invariant-loop-row g l =
    let left = verbs_of_left l.row-iterator.object l.row-iterator.last (g.R.Rows.held l.row-iterator.rows.now).maps in
    l.found.items ++ map (λ (e : Entry). e.1.names) left ≡ map (λ (e : Entry). e.1.names) (walk (g.R.Rows.held l.rows).maps l.fn.x)
