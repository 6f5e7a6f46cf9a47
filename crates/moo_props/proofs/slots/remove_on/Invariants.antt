use Rattle.moo_props.proofs.Words.{◌≡◌, take, without_on}
use Rattle.moo_props.proofs.slots.remove_on.Given as goal

-- without those so far
abbrev pub invariant-loop-id : goal.invariant-loop-id
invariant-loop-id g l = g.R.Rows.held l.rows ≡ without_on l.y (take l.id-index l.ids) (g.R.Rows.held l.fn.rows)
