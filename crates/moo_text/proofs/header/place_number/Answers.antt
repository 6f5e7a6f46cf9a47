use Rattle.std.proofs.Common.{arith}
use Rattle.moo_text.proofs.Places.{room_for_digit}
use Rattle.moo_text.proofs.header.place_number.Goals as goal

pub overflow_mul-place : goal.overflow_mul-place
overflow_mul-place c = let room = room_for_digit c.loop-digit.place c.loop-digit.digit-index 19 c.loop-digit.invariant.bounded (omega arith) (omega arith) in omega arith

pub overflow_add-place : goal.overflow_add-place
overflow_add-place c = let room = room_for_digit c.loop-digit.place c.loop-digit.digit-index 19 c.loop-digit.invariant.bounded (omega arith) (omega arith) in omega (arith, c.in_ok-place.ensures)
