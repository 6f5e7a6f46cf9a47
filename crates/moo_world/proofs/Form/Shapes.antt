-- Worlds of one shape: where one is well formed, so is the other.
use Rattle.moo_world.proofs.Words.{arith, ◌≡◌, ◌≤◌, true, sym, ◌∙◌, ap, subst, List, ◌<◌, ◌≤ℤ◌, pos, negsuc, map, unwrap_or, option_map, list_all, flat_map, ObjNo, ObjRow, World, WorldObject, IsWellFormed, KeepsLimits, IsTree, Climbs, Chain, LocationChain, NamesDiffer, is_object, parent_of, location_of, property_names_of, defined_by_any, property_named, slot_of, directory_of, row_of, without_slots, is_property_name, verb_fits, row_fits}

-- the worlds differ in fields of rows and in verbs alone, and not in parents
pub record SameShape (w v : World) : Type 0 where
  pub objects : is_object v ≡ is_object w
  pub top : v.top ≡ w.top
  pub next_prop : v.next_prop ≡ w.next_prop
  pub parents : parent_of v ≡ parent_of w
  pub names : property_names_of v ≡ property_names_of w
  pub slots : slot_of v ≡ slot_of w

-- functions that agree everywhere are one
pub agree : {A B : Type 0} {f g : A → B} → ((x : A) → f x ≡ g x) → f ≡ g
agree h = λ i x. h x i

module _ (w : World) where
  bare_names : property_names_of (without_slots w) ≡ property_names_of w
  bare_names = agree λ x. grind arith

  bare_verbs : directory_of (without_slots w) ≡ directory_of w
  bare_verbs = agree λ x. grind arith

  pub bare_rows : row_of (without_slots w) ≡ row_of w
  bare_rows = agree λ x. grind arith

-- worlds whose objects differ in what they define and in slots alone
module _ (w v : World) (f : ObjNo → WorldObject → WorldObject) (is : (y : ObjNo) → v.object y ≡ option_map (f y) (w.object y)) (rows : (y : ObjNo) (r : WorldObject) → (f y r).row ≡ r.row) where
  alike : {A : Type 0} (g : WorldObject → A) → ((y : ObjNo) (r : WorldObject) → g (f y r) ≡ g r) → (y : ObjNo) → option_map g (v.object y) ≡ option_map g (w.object y)
  alike g e y = grind (arith, is y, e y)

  pub parents_alike : parent_of v ≡ parent_of w
  parents_alike = λ i y. alike (λ r. r.row.parent) (λ y r. ap (λ (k : ObjRow). k.parent) (rows y r)) y i

  locations_alike : location_of v ≡ location_of w
  locations_alike = λ i y. alike (λ r. r.row.location) (λ y r. ap (λ (k : ObjRow). k.location) (rows y r)) y i

  pub objects_alike : (y : ObjNo) → is_object v y ≡ is_object w y
  objects_alike y = grind (arith, is y)

  pub tree_alike : v.top ≡ w.top → IsTree w → IsTree v
  tree_alike top tree = grind (arith, objects_alike, parents_alike, locations_alike)

  pub limits_alike : v.top ≡ w.top → (0 < v.next_prop) × (v.next_prop ≤ 4294967295) → v.next_verb ≡ w.next_verb → ((y : ObjNo) (r : WorldObject) → (f y r).verbs ≡ r.verbs)
      → ((y : ObjNo) → list_all is_property_name (property_names_of v y) ≡ true) → KeepsLimits (without_slots w) → KeepsLimits (without_slots v)
  limits_alike top props next_verb verbs names limits = grind arith

-- what an object of a well formed world defines has names that a property may have
pub names_fit : (w : World) → KeepsLimits (without_slots w) → (y : ObjNo) → list_all is_property_name (property_names_of w y) ≡ true
names_fit w limits y = ap (λ g. list_all is_property_name (g y)) (sym (bare_names w)) ∙ limits.names y

module _ (w v : World) (same : SameShape w v) (wf : IsWellFormed w) (locations : (x : ObjNo) → is_object v x ≡ true → (l : List ObjNo) × LocationChain v x l) (rows : (x : ObjNo) → unwrap_or (option_map row_fits (row_of v x)) true ≡ true)
    (room : (0 < v.next_verb) × (v.next_verb ≤ 4294967295)) (directories : (x : ObjNo) → list_all verb_fits (directory_of v x) ≡ true) where
  object_was : (x : ObjNo) → is_object v x ≡ true → is_object w x ≡ true
  object_was x e = sym (ap (λ f. f x) same.objects) ∙ e

  Chain_was : (x : ObjNo) (l : List ObjNo) → Chain v x l → Chain w x l
  Chain_was x l c = subst (λ link. Climbs link x l) same.parents c

  owed_was : (l : List ObjNo) → defined_by_any v l ≡ defined_by_any w l
  owed_was l = λ i. flat_map (λ d. map (λ n. (d, n)) (same.names i d)) l

  limits_kept : KeepsLimits (without_slots v)
  limits_kept = record {
    top = subst (λ t. (negsuc 0 ≤ℤ t) × (t ≤ℤ pos 2147483647)) (sym same.top) wf.limits.top;
    props = subst (λ n. (0 < n) × (n ≤ 4294967295)) (sym same.next_prop) wf.limits.props;
    verbs = room;
    names = λ x. subst (λ f. list_all is_property_name (f x) ≡ true) (bare_names w ∙ sym same.names ∙ sym (bare_names v)) (wf.limits.names x);
    directories = λ x. subst (λ f. list_all verb_fits (f x) ≡ true) (sym (bare_verbs v)) (directories x);
    rows = λ x. subst (λ f. unwrap_or (option_map row_fits (f x)) true ≡ true) (sym (bare_rows v)) (rows x);
  }

  pub IsWellFormed-same_shape : IsWellFormed v
  IsWellFormed-same_shape = record {
    tree = record {
      numbers = λ x e. subst (λ t. (pos 0 ≤ℤ x.0) × (x.0 ≤ℤ t)) (sym same.top) (wf.tree.numbers x (object_was x e));
      chains = λ x e. let c = wf.tree.chains x (object_was x e) in (c.0, subst (λ link. Climbs link x c.0) (sym same.parents) c.1);
      locations = locations;
    };
    names = λ x l c. subst NamesDiffer (sym (owed_was l)) (wf.names x l (Chain_was x l c));
    slots = λ x l n e c. ap (λ f. option_map (λ s. s.definer) (f x n)) same.slots ∙ wf.slots x l n (object_was x e) (Chain_was x l c) ∙ ap (λ owed. option_map (λ p. p.0) (property_named owed n)) (sym (owed_was l));
    set = λ x n s e. wf.set x n s (sym (ap (λ f. f x n) same.slots) ∙ e);
    fit = λ x n s e. wf.fit x n s (sym (ap (λ f. f x n) same.slots) ∙ e);
    limits = limits_kept;
  }
