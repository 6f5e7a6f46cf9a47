use Rattle.moo_dump.proofs.Words.{◌≡◌, ◌++◌, flat_map, Entry, walk, verb_line}
use Rattle.moo_dump.proofs.objects.put_verbs.Given as goal
use Rattle.moo_rows.specs.Walk.{verbs_of_left}

-- the lines so far, and those of the verbs that are left
abbrev pub invariant-loop-row : goal.invariant-loop-row
invariant-loop-row g l =
    let left = verbs_of_left l.row-iterator.object l.row-iterator.last (g.R.Rows.held l.row-iterator.rows.now).maps in
    l.out.items ++ flat_map (λ (e : Entry). verb_line l.x e.1) left ≡ l.fn.out.items ++ flat_map (λ (e : Entry). verb_line l.x e.1) (walk (g.R.Rows.held l.rows).maps l.x)
