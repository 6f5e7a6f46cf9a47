-- What calls answer, as values.
use Rattle.std.specs.Prelude.{pos, Bool, List, map, if◌then◌else◌}
use Rattle.moo_value.specs.{declared.value.ObjNo.{ObjNo}, declared.value.Value.{Value}}
use Rattle.moo_value.specs.{declared.value.Value.TheVariants.{Int, Obj, Str, List as a_list}, Value.{gather}}
use Rattle.moo_world.specs.Objects.{Name}

-- what a call that changes something answers, except `create` and `petition`, which answer a number
abbrev pub zero : Value
zero = Int (pos 0)

-- 1 for yes, 0 for no
abbrev pub flag : Bool → Value
flag is_true = Int (pos (if is_true then 1 else 0))

-- the list of these values
abbrev pub list_of : List Value → Value
list_of values = a_list (gather values)

-- the list of these objects
abbrev pub object_list : List ObjNo → Value
object_list objects = list_of (map Obj objects)

-- the list of these strings
abbrev pub text_list : List Name → Value
text_list texts = list_of (map Str texts)
