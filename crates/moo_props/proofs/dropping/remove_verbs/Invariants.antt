use Rattle.moo_props.proofs.Words.{◌≡◌, take, verbs_removed}
use Rattle.moo_props.proofs.dropping.remove_verbs.Given as goal

-- without those so far
abbrev pub invariant-loop-key : goal.invariant-loop-key
invariant-loop-key g l = g.R.Rows.held l.rows ≡ verbs_removed (take l.key-index l.keys) (g.R.Rows.held l.fn.rows)
