-- Rows as far as a text is read.
use Rattle.std.specs.{Prelude.{◌<◌, ◌^◌, ◌+◌, max}, FinMap.{insert}}
use Rattle.moo_value.specs.declared.value.ObjNo.{ObjNo}
use Rattle.moo_rows.specs.{declared.row.Head.{Head}, declared.row.PetitionId.{PetitionId}, declared.row.PetitionRow.{PetitionRow}}
use Rattle.moo_rows.specs.{declared.row.PropRow.{PropRow}, declared.row.VerbRow.{VerbRow}, Maps.{Maps}}
use Rattle.moo_world.specs.Judge.{State}
use Rattle.moo_damage.specs.Limits.{AreWithin}

-- rows within the limits, and fewer than 2^63 batches that were accepted
pub record AreRead (m : Maps) : Type 0 where
  pub within : AreWithin m
  pub limit : m.head.seq < 2 ^ 63

-- the head of a state of which no row is read: the next property, verb and petition are the first ones
abbrev pub first_head : State → Head
first_head s = record { top = s.world.top; next_prop = 1; next_verb = 1; next_petition = 1; seq = s.seq }

-- the rows with one property more, under the next number
abbrev pub property_taken : Maps → PropRow → Maps
property_taken m row =
    record m { head = record (m.head) { next_prop = m.head.next_prop + 1 }; props = insert m.props (record { 0 = m.head.next_prop }) row }

-- the rows with one verb of x more, under the next number
abbrev pub verb_taken : Maps → ObjNo → VerbRow → Maps
verb_taken m x row =
    record m { head = record (m.head) { next_verb = m.head.next_verb + 1 }; verbs = insert m.verbs (x, record { 0 = m.head.next_verb }) row }

-- the rows with one petition more, and the number of the next petition above it
abbrev pub petition_taken : Maps → PetitionId → PetitionRow → Maps
petition_taken m id row =
    record m { head = record (m.head) { next_petition = max m.head.next_petition (id.0 + 1) }; petitions = insert m.petitions id row }
