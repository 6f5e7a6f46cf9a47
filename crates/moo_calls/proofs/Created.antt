-- The quota of an owner once an object is made.
use Rattle.std.{proofs.Common.{◌≡◌, Bool, true, false, ◌∙◌, refl, sym, ap, inl, inr}, specs.Prelude.{◌||◌, None, if◌then◌else◌}, proofs.lemmas.Bool.{both_ways, or_cases}}
use Rattle.moo_value.specs.declared.value.ObjNo.{ObjNo}
use Rattle.moo_world.{specs.Objects.{Name, nothing, same_object}, specs.World.{World, is_object, read_of}, specs.Quota.{quota_in, quota_name, quota_of}}
use Rattle.moo_calls.specs.Quotas.{quota_given}

-- the quota given in w is the same where all objects of w read what they did
pub quota_still : (w v : World) (owner : ObjNo) → ((o : ObjNo) (n : Name) → is_object w o ≡ true → read_of v o n ≡ read_of w o n) → (is_object w owner || same_object nothing owner) ≡ true → quota_given w owner ≡ quota_given v owner
quota_still w v owner reads known = by (same_object nothing owner) refl
  where
    counted : (u : World) (b : Bool) → same_object nothing owner ≡ b → quota_given u owner ≡ (if b then None else quota_of u owner)
    counted u b e = ap (λ b. if b then None else quota_of u owner) e

    by : (b : Bool) → same_object nothing owner ≡ b → quota_given w owner ≡ quota_given v owner
    by true e = counted w true e ∙ sym (counted v true e)
    by false e =
        let here : is_object w owner ≡ true = elim (or_cases (is_object w owner) (same_object nothing owner) known) [ inl h ↦ h | inr h ↦ absurd (both_ways (same_object nothing owner) e h) ] in
        counted w false e ∙ (ap quota_in (sym (reads owner quota_name here)) ∙ sym (counted v false e))
