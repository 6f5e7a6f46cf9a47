use Rattle.moo_props.proofs.Words.{◌≡◌, take, ids_for, keys_by}
use Rattle.moo_props.proofs.slots.keys_by.Given as goal

-- the keys on those so far
abbrev pub invariant-loop-y : goal.invariant-loop-y
invariant-loop-y l = l.keys.items ≡ keys_by (ids_for l.x l.all l.own) (take l.y-index l.under)
