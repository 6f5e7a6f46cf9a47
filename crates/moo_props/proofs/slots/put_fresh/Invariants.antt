use Rattle.moo_props.proofs.Words.{◌≡◌, take, with_fresh}
use Rattle.moo_props.proofs.slots.put_fresh.Given as goal

-- with those so far
abbrev pub invariant-loop-origin : goal.invariant-loop-origin
invariant-loop-origin g l = g.R.Rows.held l.rows ≡ with_fresh l.y l.owner (take l.origin-index l.origins) (g.R.Rows.held l.fn.rows)
