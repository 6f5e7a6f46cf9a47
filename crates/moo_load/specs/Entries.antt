-- What the lines of a dump tell, and what rows each of them puts.
use Rattle.std.specs.{Prelude.{◌≡◌, ◌<◌, ℕ, true, List, ◌∷◌, ◌++◌, [], codes}, List.{AllByRecursion, flat_map}, FinMap.{insert}}
use Rattle.moo_value.specs.{declared.value.ObjNo.{ObjNo}, declared.value.Value.{Value}, declared.value.Value.TheVariants.{Obj, Str}}
use Rattle.moo_value.specs.Literal.{Fits}
use Rattle.moo_rows.specs.{declared.row.ObjRow.{ObjRow}, declared.row.PetitionId.{PetitionId}, declared.row.PetitionRow.{PetitionRow}}
use Rattle.moo_rows.specs.{declared.row.VerbRow.{VerbRow}, Bits.{letters_of}, Maps.{Maps}}
use Rattle.moo_dump.specs.Dump.{object_values, state_values, verb_values, object_line, property_line, slot_line, verb_line, petition_line}
use Rattle.moo_load.specs.{Printed.{petition_values}, Rows.{property_taken, verb_taken, petition_taken}}
use Rattle.moo_world.specs.{Objects.{Name, Property}, Petitions.{petition_fits}}
use Rattle.moo_world.specs.World.{Slot, row_fits, state_fits, verb_fits, is_property_name}

-- what a line tells: an object, a name that it defines, a slot of it, a verb of it, or a petition
pub data Entry : Type 0 where
  an_object : ObjNo → ObjRow → Entry
  a_property : ObjNo → Name → Entry
  a_slot : ObjNo → Property → Slot → Entry
  a_verb : ObjNo → VerbRow → Entry
  a_petition : PetitionId × PetitionRow → Entry

-- the line of an entry
abbrev pub entry_text : Entry → List ℕ
entry_text (an_object x row) = object_line x row
entry_text (a_property x n) = property_line x n
entry_text (a_slot x p s) = slot_line x p s
entry_text (a_verb x v) = verb_line x v
entry_text (a_petition e) = petition_line e

-- the values of the line of an entry
abbrev pub entry_values : Entry → List Value
entry_values (an_object x row) = object_values x row
entry_values (a_property x n) = Obj x ∷ Str n ∷ []
entry_values (a_slot x p s) = Obj x ∷ Obj p.0 ∷ Str p.1 ∷ Obj s.owner ∷ Str (letters_of s.bits) ∷ state_values s.state
entry_values (a_verb x v) = verb_values x v
entry_values (a_petition e) = petition_values e.0 e.1

-- the row of an entry is within the limits of its columns
abbrev pub RowFits : Entry → Type 0
RowFits (an_object x row) = row_fits row ≡ true
RowFits (a_property x n) = is_property_name n ≡ true
RowFits (a_slot x p s) = state_fits s.state ≡ true
RowFits (a_verb x v) = verb_fits v ≡ true
RowFits (a_petition e) = (0 < e.0.0) × (e.0.0 < 4294967295) × (petition_fits e.1 ≡ true)

-- the row of an entry is within its limits, and so is each value of its line
pub record EntryFits (e : Entry) : Type 0 where
  pub row : RowFits e
  pub values : AllByRecursion Fits (entry_values e)

-- a number is left for the row of an entry: one of a property or of a verb takes the next one
abbrev pub NumberIsLeft : Entry → Maps → Type 0
NumberIsLeft (an_object x row) m = Unit {0}
NumberIsLeft (a_property x n) m = m.head.next_prop < 4294967295
NumberIsLeft (a_slot x p s) m = Unit {0}
NumberIsLeft (a_verb x v) m = m.head.next_verb < 4294967295
NumberIsLeft (a_petition e) m = Unit {0}

-- the maps with the row of an entry put, unless it is a slot
abbrev pub entry_taken : Entry → Maps → Maps
entry_taken (an_object x row) m = record m { objects = insert m.objects x row }
entry_taken (a_property x n) m = property_taken m (record { definer = x; name = n })
entry_taken (a_slot x p s) m = m
entry_taken (a_verb x v) m = verb_taken m x v
entry_taken (a_petition e) m = petition_taken m e.0 e.1

-- the lines of entries, and the last line
abbrev pub entry_lines : List Entry → List ℕ
entry_lines es = flat_map entry_text es ++ codes "end\n"

-- what is carried over entries, one after another
abbrev pub carried : {T : Type 0} → (Entry → T → T) → List Entry → T → T
carried step [] t = t
carried step (e ∷ es) t = carried step es (step e t)

-- each entry has what it needs of what is carried over the entries before it
abbrev pub EachHas : {T : Type 0} → (Entry → T → Type 0) → (Entry → T → T) → List Entry → T → Type 0
EachHas Needs step [] t = Unit {0}
EachHas Needs step (e ∷ es) t = Needs e t × EachHas Needs step es (step e t)

-- the maps with the rows of these entries put, one after another, but for the slots
abbrev pub entries_taken : List Entry → Maps → Maps
entries_taken es m = carried entry_taken es m

-- a number is left for the row of each entry, one after another
abbrev pub NumbersAreLeft : List Entry → Maps → Type 0
NumbersAreLeft es m = EachHas NumberIsLeft entry_taken es m
