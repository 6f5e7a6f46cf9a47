-- The text that a world is dumped as.
use Rattle.std.specs.{Prelude.{ℕ, pos, List, [], ◌∷◌, ◌++◌, Some, None, codes}, List.{flat_map}, FinMap.{entries}, Fmt.{decimal}}
use Rattle.moo_value.specs.{declared.value.ObjNo.{ObjNo}, declared.value.Value.{Value}}
use Rattle.moo_value.specs.{declared.value.Value.TheVariants.{Int, Obj, Str, List as a_list}, Literal.{print}}
use Rattle.moo_rows.specs.{declared.row.ObjRow.{ObjRow}, declared.row.PetitionId.{PetitionId}, declared.row.PetitionRow.{PetitionRow}}
use Rattle.moo_rows.specs.{declared.row.SlotState.{SlotState}, declared.row.SlotState.TheVariants.{Clear, Set}}
use Rattle.moo_rows.specs.{declared.row.VerbRow.{VerbRow}, Bits.{letters_of, verb_letters_of}}
use Rattle.moo_world.specs.{Answers.{flag, list_of}, Calls.{accept_value}, Judge.{State}, ObjectLists.{objects_of}}
use Rattle.moo_world.specs.{Objects.{Name, Property, folded}, Prepositions.{prep_text, object_spec_text}}
use Rattle.moo_world.specs.World.{World, WorldObject, Slot, slot_of, chain, defined_by_any}

-- a word and a literal list of these values, as a line
abbrev pub line : List ℕ → List Value → List ℕ
line word values = word ++ 32 ∷ (print (list_of values) ++ 10 ∷ [])

-- the values of an object's line: its number, name, owner, parent and location, its six flags, and its accept list or 0
abbrev pub object_values : ObjNo → ObjRow → List Value
object_values x row =
    Obj x ∷ Str row.name ∷ Obj row.owner ∷ Obj row.parent ∷ Obj row.location
    ∷ flag row.player ∷ flag row.programmer ∷ flag row.wizard ∷ flag row.r ∷ flag row.w ∷ flag row.f ∷ accept_value row.accept ∷ []

-- the line of an object
abbrev pub object_line : ObjNo → ObjRow → List ℕ
object_line x row = line (codes "object") (object_values x row)

-- the line of a property that x defines
abbrev pub property_line : ObjNo → Name → List ℕ
property_line x n = line (codes "property") (Obj x ∷ Str n ∷ [])

-- what a slot's line says of its value: 0 for a clear slot, and 1 with the value for a slot that is set
abbrev pub state_values : SlotState → List Value
state_values Clear = Int (pos 0) ∷ []
state_values (Set v) = Int (pos 1) ∷ v ∷ []

-- the line of the slot of a property on x
abbrev pub slot_line : ObjNo → Property → Slot → List ℕ
slot_line x p s = line (codes "slot") (Obj x ∷ Obj p.0 ∷ Str p.1 ∷ Obj s.owner ∷ Str (letters_of s.bits) ∷ state_values s.state)

-- the line of the slot that x has under the property's name: in a well formed world x has a slot for each property that is owed to it
abbrev pub owed_line : World → ObjNo → Property → List ℕ
owed_line w x p = elim (slot_of w x (folded p.1)) [ None ↦ [] | Some s ↦ slot_line x p s ]

-- the values of a verb's line: its object, names, owner and rights, and its three argument specifiers
abbrev pub verb_values : ObjNo → VerbRow → List Value
verb_values x v =
    Obj x ∷ Str v.names ∷ Obj v.owner ∷ Str (verb_letters_of v.bits)
    ∷ Str (object_spec_text v.args.dobj) ∷ Str (prep_text v.args.prep) ∷ Str (object_spec_text v.args.iobj) ∷ []

-- the line of a verb of x
abbrev pub verb_line : ObjNo → VerbRow → List ℕ
verb_line x v = line (codes "verb") (verb_values x v)

-- the lines of an object: its row, the names that it defines, its slots by definers from itself up its chain, its verbs
abbrev pub record_lines : World → ObjNo → WorldObject → List ℕ
record_lines w x r =
    object_line x r.row
    ++ (flat_map (property_line x) r.defines ++ (flat_map (owed_line w x) (defined_by_any w (chain w x)) ++ flat_map (verb_line x) r.verbs))

-- the lines of the object of a number; none if no object has it
abbrev pub object_lines : World → ObjNo → List ℕ
object_lines w x = elim (w.object x) [ None ↦ [] | Some r ↦ record_lines w x r ]

-- the line of a petition: its number, who asks, and the calls that are asked for
abbrev pub petition_line : PetitionId × PetitionRow → List ℕ
petition_line e = line (codes "petition") (Int (pos e.0.0) ∷ Obj e.1.who ∷ a_list e.1.calls ∷ [])

-- the first two lines: how many batches were accepted, and the greatest number that an object was given
abbrev pub heading : State → List ℕ
heading s = codes "seq " ++ (decimal s.seq ++ 10 ∷ (codes "top " ++ (print (Obj (record { 0 = s.world.top })) ++ 10 ∷ [])))

-- the heading, each object in ascending order, each petition in ascending order, and the end
unfoldable pub dump : State → List ℕ
dump s = heading s ++ (flat_map (object_lines s.world) (objects_of s.world) ++ (flat_map petition_line (entries s.petitions) ++ codes "end\n"))
