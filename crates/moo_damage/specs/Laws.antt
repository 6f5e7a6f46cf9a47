-- What is proved of the definitions.
use Rattle.moo_rows.specs.Maps.{Maps}
use Rattle.moo_world.specs.Rows.{IsGood}
use Rattle.moo_damage.specs.{declared.kind.Kind.{Kind}, declared.kind.Key.{Key}, Damage.{IsClean}, Kinds.{InRows}, Limits.{AreWithin}}

-- rows within the limits that have no damage are good ones: sound rows of a well formed world, with petitions as they may be beside it
abbrev pub CleanRowsAreGood : Type 0
CleanRowsAreGood = (m : Maps) → AreWithin m → IsClean m → IsGood m

-- good rows have no damage: numbers, links, properties, slots and verbs are right
abbrev pub GoodRowsAreClean : Type 0
GoodRowsAreClean = (m : Maps) → IsGood m → IsClean m

-- no kind of damage is met in good rows
abbrev pub GoodRowsHaveNoDamage : Type 0
GoodRowsHaveNoDamage = (m : Maps) → IsGood m → (kind : Kind) (key : Key) → ¬ (InRows m kind key)
