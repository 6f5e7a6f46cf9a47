use Rattle.moo_world.{specs.TreeLaws.{RebuiltExists, RebuiltIsOne}, proofs.Inheritance.Rebuilding.{SameButSlots-rebuilt, Rebuilt-rebuilt, Rebuilt-unique}}
use Rattle.moo_world.proofs.laws.rebuilding_holds.Goals as goal

exists : RebuiltExists
exists w s q tw ts = (SameButSlots-rebuilt w s q, Rebuilt-rebuilt w s q tw ts)

one : RebuiltIsOne
one w a b q tw ta same ra rb = Rebuilt-unique w a b q tw ta same ra rb

pub returns : goal.returns
returns c = record { exists = exists; one = one }
