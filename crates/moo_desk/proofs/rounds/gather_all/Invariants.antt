use Rattle.std.specs.Prelude.{◌≡◌, ◌<◌, true, length}
use Rattle.moo_desk.{specs.declared.rounds.TheConstants.{BUDGET}, specs.Each.{Each}, specs.Later.{IsGathered}}
use Rattle.moo_desk.{specs.Rounds.{IsTimed, gathered_of}, proofs.Reading.{ReadsSoFar, MayGoOn}}
use Rattle.moo_desk.proofs.rounds.gather_all.Given as goal

abbrev pub invariant-loop-slot : goal.invariant-loop-slot
invariant-loop-slot g l =
    Each IsGathered l.fn.slots l.slot-items
    × ReadsSoFar (gathered_of l.fn.slots < BUDGET) l.slot-index l.fn.slots l.slot-items
    × (MayGoOn (gathered_of l.fn.slots < BUDGET) l.slot-index l.fn.slots → (gathered_of l.fn.slots < BUDGET → ⊥) → l.is_first ≡ true)
    × Each (IsTimed l.fn.now) l.fn.slots l.slot-items
    × (length l.slot-items ≡ length l.fn.slots)
