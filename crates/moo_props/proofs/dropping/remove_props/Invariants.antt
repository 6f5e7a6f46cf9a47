use Rattle.moo_props.proofs.Words.{◌≡◌, take, props_removed}
use Rattle.moo_props.proofs.dropping.remove_props.Given as goal

-- without those so far
abbrev pub invariant-loop-id : goal.invariant-loop-id
invariant-loop-id g l = g.R.Rows.held l.rows ≡ props_removed (take l.id-index l.ids) (g.R.Rows.held l.fn.rows)
