-- A row put for an object, and the world that the rows then show.
use Rattle.std.{proofs.Common.{◌≡◌, Bool, true, false, refl, sym, ◌∙◌, ap, subst, Some}, specs.Prelude.{is_some, if◌then◌else◌}, specs.FinMap.{get, insert}}
use Rattle.moo_value.specs.declared.value.ObjNo.{ObjNo}
use Rattle.moo_rows.{specs.declared.row.ObjRow.{ObjRow}, specs.Maps.{Maps, Held, wrote}}
use Rattle.moo_world.{specs.Objects.{same_object}, specs.Rows.{LookUps, world_shown, look_ups, with_object_row as with_row_put, AreSound, IsSound, IsGood}, specs.World.{IsWellFormed}, specs.Fields.{with_row}, proofs.Shown.RowLaws.{world_shown-with_object_row}, proofs.Shown.MapLaws.{look_ups-put_object}, specs.Keeps.{Keeps, beside_world}, proofs.Shown.Beside.{petitions_stay}, proofs.Shown.NumbersKept.{numbers_same}}
use Rattle.moo_calls_shared.specs.Outcomes.{world_in}

AreSound-with_object_row : (m : LookUps) (x : ObjNo) (row : ObjRow) → AreSound m → AreSound (with_row_put m x row)
AreSound-with_object_row m x row s = record {
  props_below = s.props_below;
  definers = λ id p e. still p.definer (s.definers id p e);
  slots = λ y id e. (still y (s.slots y id e).0, (s.slots y id e).1);
  one_name = s.one_name;
  verbs = λ y id e. (still y (s.verbs y id e).0, (s.verbs y id e).1, (s.verbs y id e).2);
}
  where
    still : (y : ObjNo) → is_some (m.object y) ≡ true → is_some (if same_object x y then Some row else m.object y) ≡ true
    still y e = by (same_object x y)
      where
        by : (b : Bool) → is_some (if b then Some row else m.object y) ≡ true
        by true = refl
        by false = e

IsSound-put : (m : Maps) (x : ObjNo) (row : ObjRow) → IsSound m → IsSound (record m { objects = insert m.objects x row })
IsSound-put m x row s = subst AreSound (sym (look_ups-put_object m x row)) (AreSound-with_object_row (look_ups m) x row s)

module _ (old new : Held) (x : ObjNo) (row put : ObjRow) (change : ObjRow → ObjRow) (here : get old.maps.objects x ≡ Some row) (changed : put ≡ change row) (is_put : new ≡ wrote old (record (old.maps) { objects = insert old.maps.objects x put })) where
  -- where a changed row was put for its object, the world is the one with that row changed
  pub world_in-changed : world_in new ≡ with_row (world_in old) x change
  world_in-changed =
      ap world_in is_put
      ∙ ap world_shown (look_ups-put_object old.maps x put ∙ ap (with_row_put (look_ups old.maps) x) changed)
      ∙ world_shown-with_object_row (look_ups old.maps) x row change here

  -- and the rows are good ones, where that world is well formed
  beside : beside_world new.maps ≡ beside_world old.maps
  beside = ap (λ (h : Held). beside_world h.maps) is_put

  pub Keeps-changed : IsGood old.maps → IsWellFormed (with_row (world_in old) x change) → Keeps old new
  Keeps-changed good formed = record {
    good = record {
      sound = subst (λ (h : Held). IsSound h.maps) (sym is_put) (IsSound-put old.maps x put good.sound);
      formed = subst IsWellFormed (sym world_in-changed) formed;
      petitions = petitions_stay old.maps new.maps beside good;
    };
    beside = beside;
    base = ap (λ (h : Held). h.base) is_put;
    numbers = numbers_same old.maps new.maps (ap (λ (h : Held). h.maps.props) is_put) (ap (λ (h : Held). h.maps.verbs) is_put) (ap (λ (h : Held). h.maps.head.next_prop) is_put) (ap (λ (h : Held). h.maps.head.next_verb) is_put);
  }
