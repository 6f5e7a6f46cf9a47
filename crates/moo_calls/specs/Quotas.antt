-- The quota that is asked when an object is made.
use Rattle.std.specs.{Prelude.{ℤ, pos, int_lt, Bool, true, Option, None, unwrap_or, if◌then◌else◌}, Option.{option_map}}
use Rattle.moo_value.specs.declared.value.ObjNo.{ObjNo}
use Rattle.moo_world.specs.{Objects.{nothing, same_object}, Quota.{quota_of}, World.{World}}

-- how many objects may still be made for the owner given; `None` if #-1 was given, or if the owner has no quota
abbrev pub quota_given : World → ObjNo → Option ℤ
quota_given world owner = if same_object nothing owner then None else quota_of world owner

-- whether a quota is above 0, or there is no quota
abbrev pub has_one_left : Option ℤ → Bool
has_one_left quota = unwrap_or (option_map (λ number. int_lt (pos 0) number) quota) true
