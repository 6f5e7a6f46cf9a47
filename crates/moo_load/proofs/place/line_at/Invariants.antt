use Rattle.moo_load.proofs.Words.{◌≡◌, ◌+◌, take, line_ends}
use Rattle.moo_load.proofs.place.line_at.Given as goal

abbrev pub invariant-loop-byte : goal.invariant-loop-byte
invariant-loop-byte l = l.number ≡ line_ends (take l.byte-index (take l.at l.text)) + 1
