-- What every change of the rows keeps.
use Rattle.std.specs.{Prelude.{◌≡◌, ℕ}, FinMap.{FinMap}}
use Rattle.moo_rows.specs.{declared.row.PetitionRow.{PetitionRow}, Maps.{Maps, Held, petition_cmp}}
use Rattle.moo_world.specs.{Rows.{IsGood}, Numbers.{KeepsNumbers}}

-- what rows have beside the world that they show: how many batches were accepted, the petitions, and the number of the next one
abbrev pub beside_world : Maps → ℕ × (ℕ × FinMap petition_cmp PetitionRow)
beside_world rows = (rows.head.seq, (rows.head.next_petition, rows.petitions))

-- the rows are good ones, what is beside the world is as it was, and what stays keeps its number
pub record Keeps (old new : Held) : Type 0 where
  pub good : IsGood new.maps
  pub beside : beside_world new.maps ≡ beside_world old.maps
  pub base : new.base ≡ old.base
  pub numbers : KeepsNumbers old.maps new.maps
