-- What quotas count.
use Rattle.moo_world.{proofs.Lemmas.{arith, ◌≡◌, true, false, ◌||◌, refl, sym, ◌∙◌, ap, subst, inl, inr, Some, ℤ, pos, negsuc, ◌+ℤ◌, if◌then◌else◌, both_ways, or_cases, ObjNo, Value, Obj, create, recycle, next_object, owner_or_self, created, nothing, same_object, CreateTakesOne, RecycleGivesOne, quota_name, quota_in, quota_of, quota_changed, quota_returned, charged, recycled, may_be_parent, World, IsWellFormed, is_object, owner_of, known_numbered, of_done}, proofs.Form.Passing.{each_check}, proofs.Ownership.Created.{free, formed, objects_now, owner_new, owner_old, read_old}, proofs.Ownership.Quotas.{quota_read, objects_stay, owners_stay}, proofs.Inheritance.Recycling.{IsWellFormed-recycled}}

-- a parent that is allowed is an object or nothing
pub parent_known : (w : World) (p q : ObjNo) → may_be_parent w p q ≡ true → (is_object w q || same_object nothing q) ≡ true
parent_known w p q h = grind arith

module _ (w : World) (owner : ObjNo) (k : ℤ) where
  -- what a call of create says of its answer and the world that it leaves
  abbrev TakesOne : Value → World → Type 0
  TakesOne v next =
      (quota_of next owner ≡ Some (k +ℤ negsuc 0))
      × ((x : ObjNo) × (v ≡ Obj x) × (is_object w x ≡ false) × (owner_of next x ≡ owner)
      × ((y : ObjNo) → is_object next y ≡ (same_object x y || is_object w y))
      × ((y : ObjNo) → is_object w y ≡ true → owner_of next y ≡ owner_of w y))

  module _ (wf : IsWellFormed w) (some : same_object nothing owner ≡ false) (had : quota_of w owner ≡ Some k) (x q : ObjNo) (known : (is_object w owner || same_object nothing owner) ≡ true) (is_next : next_object w ≡ Some x) (parent : (is_object w q || same_object nothing q) ≡ true) where
    is_there : is_object w owner ≡ true
    is_there = elim (or_cases _ _ known) [ inl h ↦ h | inr h ↦ absurd (both_ways (same_object nothing owner) some h) ]

    moved : TakesOne (Obj x) (quota_changed (created w x q owner) owner (negsuc 0))
    moved =
        let v = created w x q owner in
        let f = formed w x q owner wf is_next parent (known_numbered w wf owner known) in (
          quota_read v f.tree owner k (negsuc 0) (ap quota_in (read_old w x q owner wf is_next parent owner quota_name is_there) ∙ had),
          (
            x,
            refl,
            free w x q owner wf is_next parent,
            owners_stay v owner (negsuc 0) x ∙ owner_new w x q owner wf is_next parent,
            λ y. objects_stay v owner (negsuc 0) y ∙ objects_now w x q owner wf is_next parent y,
            λ y o. owners_stay v owner (negsuc 0) y ∙ owner_old w x q owner wf is_next parent y o,
          ),
        )

    pub taken : TakesOne (Obj x) (charged (created w x q (owner_or_self x owner)) owner)
    taken = subst (λ b. TakesOne (Obj x) (if b then created w x q (if b then x else owner) else quota_changed (created w x q (if b then x else owner)) owner (negsuc 0))) (sym some) moved

pub create_takes_one : CreateTakesOne
create_takes_one w next p q owner v k wf some had h =
    of_done (TakesOne w owner k) (create w p q owner) v next (search (each_check, taken w owner k wf some had, parent_known) depth 12) h

pub recycle_gives_one : RecycleGivesOne
recycle_gives_one w next p x v k wf h had small =
    of_done (λ _ left. quota_of left (owner_of w x) ≡ Some (k +ℤ pos 1)) (recycle w p x) v next (search (each_check, given_back) depth 12) h
  where
    given_back : is_object w x ≡ true → quota_of (quota_returned (recycled w x) (owner_of w x)) (owner_of w x) ≡ Some (k +ℤ pos 1)
    given_back xo = grind (arith, quota_read, IsWellFormed-recycled)
