-- The values of a line.
use Rattle.std.specs.{Prelude.{◌≡◌, ℕ, ◌==◌, not, true, pos, List, [], ◌∷◌, codes}, List.{AllByRecursion, list_all}}
use Rattle.moo_value.specs.{declared.value.ObjNo.{ObjNo}, declared.value.Value.{Value}}
use Rattle.moo_value.specs.{declared.value.Value.TheVariants.{Int, Obj, Str, List as a_list}, Literal.{Fits, print}}
use Rattle.moo_rows.specs.{declared.row.PetitionId.{PetitionId}, declared.row.PetitionRow.{PetitionRow}, declared.row.SlotRow.{SlotRow}}
use Rattle.moo_rows.specs.Bits.{letters_of}
use Rattle.moo_dump.specs.Dump.{state_values}
use Rattle.moo_world.specs.{Answers.{list_of}, Objects.{Name}}
use Rattle.moo_load.specs.declared.line.Word.{Word}
use Rattle.moo_load.specs.declared.line.Word.TheVariants.{Object, Property as PropertyWord, Slot, Verb, Petition}

-- the bytes have no line end
abbrev pub IsOneLine : List ℕ → Type 0
IsOneLine bytes = list_all (λ byte. not (byte == 10)) bytes ≡ true

-- the word that the line of a row begins with
abbrev pub word_text : Word → List ℕ
word_text Object = codes "object"
word_text PropertyWord = codes "property"
word_text Slot = codes "slot"
word_text Verb = codes "verb"
word_text Petition = codes "petition"

-- the text is printed from a list of these values, each within the limits
pub record ArePrinted (values : List Value) (text : List ℕ) : Type 0 where
  pub fit : AllByRecursion Fits values
  pub printed : text ≡ print (list_of values)

-- the values of a slot's line: an object, the property by its definer and its name, and the slot
abbrev pub slot_values : ObjNo → ObjNo → Name → SlotRow → List Value
slot_values x definer name s = Obj x ∷ Obj definer ∷ Str name ∷ Obj s.owner ∷ Str (letters_of s.bits) ∷ state_values s.state

-- the values of a petition's line: its number, who asks, and the calls
abbrev pub petition_values : PetitionId → PetitionRow → List Value
petition_values id row = Int (pos id.0) ∷ Obj row.who ∷ a_list row.calls ∷ []
