use Rattle.moo_value.proofs.Words.{◌≡◌, ◌++◌, ◌∷◌, take, flat_map, escape}
use Rattle.moo_value.proofs.writing.put_string.Given as goal

abbrev pub invariant-loop-byte : goal.invariant-loop-byte
invariant-loop-byte l = l.out.items ≡ l.fn.out.items ++ 34 ∷ flat_map escape (take l.byte-index l.byte-items)
