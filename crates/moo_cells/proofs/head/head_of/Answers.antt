use Rattle.moo_cells.{proofs.Words.{refl, arith, ints, version_number}, proofs.HeadLemmas.{no_numbers, newer}}
use Rattle.moo_cells.proofs.head.head_of.Goals as goal

pub returns-in_default-clause-err : goal.returns-in_default-clause-err
returns-in_default-clause-err c = let none = no_numbers (version_number c.args.version) c.args.cells.now c.in_default.ensures.err in (refl, refl, none.0, none.1)

pub returns-then-number-numbers-clause-err : goal.returns-then-number-numbers-clause-err
returns-then-number-numbers-clause-err c = newer c.args.cells.now c.in-Ok.numbers c.in-Ok.ensures.ok (omega (arith, ints)) (omega (arith, ints))
