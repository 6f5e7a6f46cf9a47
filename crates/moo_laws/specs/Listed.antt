-- Names that somebody may list.
use Rattle.std.specs.{Prelude.{◌≡◌, true}, List.{Contains}}
use Rattle.moo_value.specs.declared.value.ObjNo.{ObjNo}
use Rattle.moo_world.specs.{Objects.{Name}, Rights.{may_read_object}, World.{World, property_names_of}}

-- `properties` of some object, which the programmer may read, has the name in its answer
abbrev pub IsListed : World → ObjNo → Name → Type 0
IsListed world programmer name =
    (object : ObjNo) × (may_read_object world programmer object ≡ true) × Contains (property_names_of world object) name
