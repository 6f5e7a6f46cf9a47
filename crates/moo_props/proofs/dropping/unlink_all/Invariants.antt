use Rattle.moo_props.proofs.Words.{◌≡◌, take, rows_released}
use Rattle.moo_props.proofs.dropping.unlink_all.Given as goal

-- with those so far released
abbrev pub invariant-loop-y : goal.invariant-loop-y
invariant-loop-y g l = g.R.Rows.held l.rows ≡ rows_released l.x l.parent (take l.y-index l.objects) (g.R.Rows.held l.fn.rows)
