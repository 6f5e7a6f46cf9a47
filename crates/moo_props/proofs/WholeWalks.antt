-- In a good world the walks that begin below the least number go over all rows.
use Rattle.moo_props.{proofs.Words.{◌||◌, ◌≡◌, ◌≢◌, ◌<◌, T, Option, None, Some, List, [], ◌∷◌, map, Less, Ordering, negsuc, refl, sym, ap, ◌∙◌, arith, is_some, IsTotalOrder, tied_itself, nat_cmp_is, int_eq, filter, FinMap, get, is_sorted, entries, entries_sorted, get-entries, ints, ObjNo, ObjRow, VerbId, ChildOf, Within, object_exact, IsFirst, defined_left, Maps, object_cmp, prop_cmp, is_past, entries_past, verbs_of_left, object_total, prop_total, first_of, nothing, same_object, same_object-eq, IsGood, look_ups, prop_id, verb_id, is_object_seen, links_to, linked_among, verbs_among, props_of, or-false, IsSound}, specs.Dropping.{row_linked}}
use Rattle.moo_props.proofs.Cases.{passing}
use Rattle.std.{specs.Cmp.{int_cmp_is}, specs.Ordering.{is_eq}, specs.FinMap.{find}}
use Rattle.moo_rows.{proofs.Firsts.{first-alike, first-end, first-step}, proofs.OfObject.{verbs_of_left-all}, proofs.Walking.{here, keeps, past_test, all_past}}
use Rattle.moo_rows.specs.Links as links
use Rattle.moo_world.proofs.Shown.ObjectEntries.{same_object-symm}

-- where each held key is past one, the entries past it are all
module _ {K X : Type 0} {cmp : K → K → Ordering} (total : IsTotalOrder cmp) (from : K) where
  all_of : (es : List (K × X)) → T (is_sorted cmp es) → ((k : K) (row : X) → find cmp k es ≡ Some row → cmp from k ≡ Less) → entries_past cmp (Some from) es ≡ es
  all_of [] sorted h = refl
  all_of (e ∷ es) sorted h =
      let first : cmp from e.0 ≡ Less = h e.0 e.1 (here cmp e.0 e es (ap is_eq (tied_itself total e.0))) in
      keeps (is_past cmp (Some from)) e es (past_test cmp (Some from) e.0 first) ∙ ap (λ l. e ∷ l) (all_past cmp total (Some from) e.0 es first (first_of _ _ sorted))

  all_entries : (m : FinMap cmp X) → ((k : K) (row : X) → get m k ≡ Some row → cmp from k ≡ Less) → entries_past cmp (Some from) (entries m) ≡ entries m
  all_entries m h = all_of (entries m) (entries_sorted m) (λ k row held. h k row (get-entries m k ∙ held))

pub props_all : (t : Maps) → IsSound t → entries_past prop_cmp (Some (prop_id 0)) (entries t.props) ≡ entries t.props
props_all t sound = all_entries prop_total (prop_id 0) t.props (λ id row held. sym (nat_cmp_is 0 id.0 Less (sound.props_below id.0 (ap is_some held)).0))

module _ (t : Maps) (good : IsGood t) (x : ObjNo) where
  -- ---- properties

  pub defined_all : defined_left x (prop_id 0) t ≡ filter (λ e. same_object e.1.definer x) (entries t.props)
  defined_all =
      ap (filter (λ e. int_eq e.1.definer.0 x.0)) (props_all t good.sound)
      ∙ (λ i. filter (λ e. (same_object-eq x e.1.definer ∙ same_object-symm x e.1.definer) i) (entries t.props))

  pub defined_keys : map (λ e. e.0) (defined_left x (prop_id 0) t) ≡ props_of (x ∷ []) t.props
  defined_keys = ap (map (λ e. e.0)) defined_all ∙ (λ i. map (λ e. e.0) (filter (λ e. sym (or-false (same_object e.1.definer x)) i) (entries t.props)))

  -- ---- verbs

  pub verb_keys : map (λ e. e.0) (verbs_of_left x (verb_id 0) t) ≡ verbs_among x (entries t.verbs)
  verb_keys = ap (map (λ e. e.0)) (verbs_of_left-all x t positive)
    where
      positive : (id : VerbId) → get t.verbs (x, id) ≢ None → 0 < id.0
      positive id held = grind (arith, good.sound.verbs x id.0)

  -- ---- objects by parent or place

  pub linked_all : linked_among x (entries_past object_cmp (Some nothing) (entries t.objects)) ≡ linked_among x (entries t.objects)
  linked_all = ap (linked_among x) (all_entries object_total nothing t.objects past)
    where
      past : (y : ObjNo) (row : ObjRow) → get t.objects y ≡ Some row → object_cmp nothing y ≡ Less
      past y row held =
          let range = good.formed.tree.numbers y (is_object_seen (look_ups t) y ∙ ap is_some held) in
          sym (int_cmp_is (negsuc 0) y.0 Less (omega (arith, ints, range.0)))

module _ (t : Maps) (x from : ObjNo) where
  -- what is first of x's children and of what lies in x
  pub linked-first : (r : Option ObjNo) → IsFirst object_cmp (λ y. links.is_linked t (ChildOf x) y || links.is_linked t (Within x) y) from r → IsFirst object_cmp (λ y. row_linked x (get t.objects y)) from r
  linked-first = first-alike object_cmp (λ y. links.is_linked t (ChildOf x) y || links.is_linked t (Within x) y) (λ y. row_linked x (get t.objects y)) (λ y. alike (get t.objects y)) from
    where
      alike : (o : Option ObjRow) → (links.row_has (ChildOf x) o || links.row_has (Within x) o) ≡ row_linked x o
      alike o = grind (arith, same_object-eq)

  pub linked-end : IsFirst object_cmp (λ y. row_linked x (get t.objects y)) from None → linked_among x (entries_past object_cmp (Some from) (entries t.objects)) ≡ []
  linked-end h = ap (map (λ e. e.0)) (first-end object_total object_exact (links_to x) t.objects from h)

  pub linked-step : (y : ObjNo) → IsFirst object_cmp (λ y. row_linked x (get t.objects y)) from (Some y)
      → linked_among x (entries_past object_cmp (Some from) (entries t.objects)) ≡ y ∷ linked_among x (entries_past object_cmp (Some y) (entries t.objects))
  linked-step y h =
      let r = passing (links_to x) (get t.objects y) h.0 in
      ap (map (λ e. e.0)) (first-step object_total object_exact (links_to x) t.objects from y r.0 h r.1)
