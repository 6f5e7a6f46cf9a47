use Rattle.moo_props.proofs.Words.{◌≡◌, take, ids_for, slots_moved}
use Rattle.moo_props.proofs.slots.exchange_slots.Given as goal

-- with the slots of those so far moved
abbrev pub invariant-loop-y : goal.invariant-loop-y
invariant-loop-y g l = g.R.Rows.held l.rows ≡ slots_moved (ids_for l.x l.all l.own) l.gained (take l.y-index l.under) (g.R.Rows.held l.fn.rows)
