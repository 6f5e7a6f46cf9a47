-- The versions of the tables: the number of each, the one that is written, and what each has.
use Rattle.std.specs.Prelude.{◌≢◌, Bool, true, false, ℤ, pos}
use Rattle.moo_tables_rows.specs.{declared.version.Version.{Version}, declared.version.Version.TheVariants.{First, Second}}

-- the number of a version, as the column `version` of `head` has it
abbrev pub version_number : Version → ℤ
version_number First = pos 1
version_number Second = pos 2

-- the present version: the last one, which alone is written
abbrev pub present : Version
present = Second

-- a version before the present one
abbrev pub IsEarlier : Version → Type 0
IsEarlier version = version ≢ present

-- there are petitions, and their two tables
abbrev pub has_petitions : Version → Bool
has_petitions First = false
has_petitions Second = true

-- the slots are in the table `slot`, with letters for the rights on a property; else they are in `slot2`, with a number for the rights
abbrev pub has_lettered_bits : Version → Bool
has_lettered_bits First = true
has_lettered_bits Second = false
