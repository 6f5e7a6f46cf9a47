-- The built-in properties by their names, and what they read as.
-- LambdaMOO Programmer's Manual, 'Properties on Objects' in the chapter on the database.
use Rattle.std.specs.{Prelude.{pos, ℕ, codes, List, [], ◌∷◌, Option, unwrap_or}, Option.{option_map}, List.{find}}
use Rattle.moo_value.specs.{declared.value.ObjNo.{ObjNo}, declared.value.Value.{Value}, declared.value.Value.TheVariants.{Int, Obj, Str}}
use Rattle.moo_rows.specs.declared.row.ObjRow.{ObjRow}
use Rattle.moo_world.specs.declared.built_in.BuiltIn.{BuiltIn}
use Rattle.moo_world.specs.declared.built_in.BuiltIn.TheVariants.{Name as NameField, Owner, Location, Contents, Programmer, Wizard, R, W, F}
use Rattle.moo_world.specs.{Objects.{Name, same_text, folded}, World.{World, row_of}, ObjectLists.{contents_of}}
use Rattle.moo_world.specs.Answers.{flag, object_list}

-- the name of a built-in property, in lower case
abbrev pub field_name : BuiltIn → List ℕ
field_name NameField = codes "name"
field_name Owner = codes "owner"
field_name Location = codes "location"
field_name Contents = codes "contents"
field_name Programmer = codes "programmer"
field_name Wizard = codes "wizard"
field_name R = codes "r"
field_name W = codes "w"
field_name F = codes "f"

-- every built-in property
abbrev pub all_fields : List BuiltIn
all_fields = NameField ∷ Owner ∷ Location ∷ Contents ∷ Programmer ∷ Wizard ∷ R ∷ W ∷ F ∷ []

-- the built-in property of a name, in any case
abbrev pub built_in : Name → Option BuiltIn
built_in text = find (λ field. same_text (folded text) (field_name field)) all_fields

-- what an object's row says of a field; its contents are those objects that are in it
abbrev pub field_in : World → ObjNo → BuiltIn → ObjRow → Value
field_in world object NameField row = Str row.name
field_in world object Owner row = Obj row.owner
field_in world object Location row = Obj row.location
field_in world object Contents row = object_list (contents_of world object)
field_in world object Programmer row = flag row.programmer
field_in world object Wizard row = flag row.wizard
field_in world object R row = flag row.r
field_in world object W row = flag row.w
field_in world object F row = flag row.f

-- what an object reads for a built-in property, or 0 if there is no such object
abbrev pub field_of : World → ObjNo → BuiltIn → Value
field_of world object field = unwrap_or (option_map (field_in world object field) (row_of world object)) (Int (pos 0))
