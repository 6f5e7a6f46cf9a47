use Rattle.moo_value.{proofs.Words.{◌≡◌, ℤ, FitsSigned, arith, w32, to_z, of_z, w64, to_z-of_z, an_object}, proofs.Numbers.{number_taken}}
use Rattle.moo_value.proofs.reading.object_at.Goals as goal
use Rattle.std.proofs.lemmas.Int.{ints}

-- the number of an object is no other one in 64 bits
wide : (z : ℤ) → FitsSigned w32 z → to_z w64 (of_z w64 z) ≡ z
wide z fits = omega (arith, ints)

pub overflow_cast-result : goal.overflow_cast-result
overflow_cast-result c =
    let fits = (number_taken an_object c.args.bytes.now (c.in_ok-number.number, c.in_ok-number.rest.now) c.in_ok-number.ensures).fits in
    rw (wide c.in_ok-number.number fits) fits

pub returns : goal.returns
returns c =
    let z = c.in_ok-number.number in
    let fits = (number_taken an_object c.args.bytes.now (z, c.in_ok-number.rest.now) c.in_ok-number.ensures).fits in
    rw (wide z fits, to_z-of_z w32 z fits) c.in_ok-number.ensures
