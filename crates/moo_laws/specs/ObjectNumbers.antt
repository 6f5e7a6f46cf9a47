-- That the number of an object isn't given again.
use Rattle.std.specs.Prelude.{◌≡◌, ◌≤ℤ◌, true}
use Rattle.moo_value.specs.declared.value.ObjNo.{ObjNo}
use Rattle.moo_world.specs.World.{World, is_object}

-- The greatest number that was given doesn't fall. Under a number that was given there is an object that was there before, or none.
pub record KeepsObjectNumbers (world next : World) : Type 0 where
  pub top : world.top ≤ℤ next.top
  pub old : (object : ObjNo) → object.0 ≤ℤ world.top → is_object next object ≡ true → is_object world object ≡ true
