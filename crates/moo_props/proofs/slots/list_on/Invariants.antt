use Rattle.moo_props.proofs.Words.{◌≡◌, ◌++◌, take, keys_on}
use Rattle.moo_props.proofs.slots.list_on.Given as goal

-- the keys of those so far
abbrev pub invariant-loop-id : goal.invariant-loop-id
invariant-loop-id l = l.keys.items ≡ l.fn.keys.items ++ keys_on l.y (take l.id-index l.ids)
