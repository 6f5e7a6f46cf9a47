-- The calls speak of a property by its name as a caller spells it: its folded name alone counts.
use Rattle.std.{proofs.Common.{◌≡◌, Option, None, Some, refl, ap, ◌∙◌}, specs.Prelude.{not, map, ◌&&◌, if◌then◌else◌}, specs.Option.{option_map}, specs.List.{filter, list_any}}
use Rattle.moo_value.specs.declared.value.ObjNo.{ObjNo}
use Rattle.moo_rows.specs.declared.row.Bits.{Bits}
use Rattle.moo_world.{specs.Objects.{Name, nothing, same_object, same_text, folded, is_among}, specs.World.{World, WorldObject, Slot, chain, property_names_of, rebuilt, object_changed}, specs.Changes.{with_slot_of, property_removed, property_renamed, info_set}, specs.PropertyCalls.{may_define, may_rename, renamed_to}}

module _ (w : World) (x : ObjNo) (n k : Name) (same : folded n ≡ folded k) where
  pub slot_named : (change : Slot → Slot) → with_slot_of w x n change ≡ with_slot_of w x k change
  slot_named change = ap (λ f. object_changed w x (λ r. record r { slot = λ m. if same_text f m then option_map change (r.slot m) else r.slot m })) same

  pub undefined_named : property_removed w x n ≡ property_removed w x k
  undefined_named = ap (λ f. rebuilt w (object_changed w x (λ r. record r { defines = filter (λ m. not (same_text (folded m) f)) r.defines })) nothing) same

  pub renamed_named : (new : Name) → property_renamed w x n new ≡ property_renamed w x k new
  renamed_named new =
      ap (λ f. record w {
        object = λ y. option_map (λ (r : WorldObject). record r {
          defines = if same_object x y then map (λ m. if same_text (folded m) f then new else m) r.defines else r.defines;
          slot = λ m. if is_among x (chain w y) then (if same_text (folded new) m then r.slot f else (if same_text f m then None else r.slot m)) else r.slot m;
        }) (w.object y);
      }) same

  pub may_rename_named : (new : Option Name) → may_rename w x n new ≡ may_rename w x k new
  may_rename_named None = refl
  may_rename_named (Some new) = ap (λ f. list_any (λ m. same_text (folded m) f) (property_names_of w x) && may_define w x new) same

module _ (x : ObjNo) (n k : Name) (same : folded n ≡ folded k) where
  pub info_named : (w : World) (owner : ObjNo) (bits : Bits) (new : Option Name) → renamed_to (info_set w x n owner bits) x n new ≡ renamed_to (info_set w x k owner bits) x k new
  info_named w owner bits None = slot_named w x n k same (λ s. record s { owner = owner; bits = bits })
  info_named w owner bits (Some new) =
      renamed_named (info_set w x n owner bits) x n k same new
      ∙ ap (λ v. property_renamed v x k new) (slot_named w x n k same (λ s. record s { owner = owner; bits = bits }))
