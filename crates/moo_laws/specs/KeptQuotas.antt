-- Quotas that wizards keep, over any batches.
use Rattle.std.specs.Prelude.{◌≡◌, ◌≤ℤ◌, ◌≤◌, ℕ, ◌+◌, ℤ, pos, ◌+ℤ◌, cond, ◌&&◌, Bool, true, false, List, [], ◌∷◌, Some}
use Rattle.moo_value.specs.{declared.value.ObjNo.{ObjNo}, declared.value.Value.TheVariants.{Int}}
use Rattle.moo_rows.specs.declared.row.SlotState.TheVariants.{Set}
use Rattle.moo_world.specs.{declared.call.Call.{Call}, declared.call.Batch.{Batch}, declared.name.CallName.{CallName}}
use Rattle.moo_world.specs.{declared.name.CallName.TheVariants.{Create, Recycle}, Judge.{State, judge, left_by, is_accepted}}
use Rattle.moo_world.specs.{Objects.{same_object, is_among}, Quota.{quota_name}, Rights.{is_wizard}}
use Rattle.moo_world.specs.World.{World, Slot, is_object, row_passes, owner_of, slot_of, chain}

-- ---- quotas that wizards keep

-- the number is that of a wizard, or of an object that is gone
abbrev pub IsWizardOrGone : World → ObjNo → Type 0
IsWizardOrGone world who = (who.0 ≤ℤ world.top) × (is_object world who ≡ true → is_wizard world who ≡ true)

-- The owner has a quota of its own, and wizards alone may write it or take it away: the owner and its ancestors, and the slots of the quota
-- on them, are wizards' and don't have the bit w.
pub record HasKeptQuota (world : World) (owner : ObjNo) (quota : ℤ) : Type 0 where
  pub set : (slot : Slot) × (slot_of world owner quota_name ≡ Some slot) × (slot.state ≡ Set (Int quota))
  pub objects : (object : ObjNo) → is_among object (chain world owner) ≡ true →
      IsWizardOrGone world (owner_of world object) × (row_passes (λ row. row.w) world object ≡ false)
  pub slots : (object : ObjNo) (slot : Slot) → is_among object (chain world owner) ≡ true → slot_of world object quota_name ≡ Some slot →
      IsWizardOrGone world slot.owner × (slot.bits.w ≡ false)

-- ---- what is made and recycled

-- the call that makes an object
abbrev pub makes : CallName → Bool
makes name = elim name [ Create ↦ true | _ ↦ false ]

-- the call that recycles an object
abbrev pub ends : CallName → Bool
ends name = elim name [ Recycle ↦ true | _ ↦ false ]

-- how many of some calls are of a kind
abbrev pub of_kind : (CallName → Bool) → List Call → ℕ
of_kind kind [] = 0
of_kind kind (call ∷ calls) = cond (kind call.name) 1 0 + of_kind kind calls

-- how many calls of a kind are in the accepted batches of this programmer
abbrev pub calls_of_kind : (CallName → Bool) → ObjNo → State → List Batch → ℕ
calls_of_kind kind programmer state [] = 0
calls_of_kind kind programmer state (batch ∷ batches) =
    cond (same_object batch.programmer programmer && is_accepted (judge state batch)) (of_kind kind batch.calls) 0
    + calls_of_kind kind programmer (left_by state (judge state batch)) batches

-- The quota is kept still. It has fallen by one for each object that was made. It has risen by one for each that was recycled, or by less
-- if it may have come to the greatest integer.
abbrev pub QuotaMoves : World → ObjNo → ℤ → ℕ → ℕ → Type 0
QuotaMoves next owner quota made recycled =
    (now : ℤ) × HasKeptQuota next owner now × ((back : ℕ) × (back ≤ recycled) × (now +ℤ pos made ≡ quota +ℤ pos back)
    × ((quota +ℤ pos recycled) ≤ℤ pos 9223372036854775807 → back ≡ recycled))
