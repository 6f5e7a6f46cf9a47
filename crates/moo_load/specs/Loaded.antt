-- Why a text gives no world.
use Rattle.std.specs.Prelude.{ℕ, List}
use Rattle.moo_rows.specs.Maps.{Maps}
use Rattle.moo_damage.specs.{Kinds.{IsFirstInRows}, Limits.{AreWithin}}
use Rattle.moo_load.specs.{declared.fault.LoadFault.{LoadFault}, declared.fault.LoadFault.TheVariants.{NotADump, Damaged, OutOfMemory}}
use Rattle.moo_load.specs.Lines.{IsLineOf}

-- the text has a line of the number; or some rows within the limits have the damage, and none before it
abbrev pub SaysOfText : List ℕ → LoadFault → Type 0
SaysOfText text (NotADump line why) = IsLineOf text line
SaysOfText text (Damaged kind key) = (m : Maps) × AreWithin m × IsFirstInRows m kind key
SaysOfText text OutOfMemory = Unit {0}
