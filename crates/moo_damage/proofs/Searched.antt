-- What each search found, as the least key at which its kind is met.
use Rattle.moo_damage.{proofs.Words.{arith, ◌≡◌, pos, Bool, true, false, Option, None, Some, sym, subst, option_map, both_ways, ObjNo, PetitionId, PropId, VerbId, Maps, Kind, BadHead, BadCell, PastHead, NoParent, ParentLoop, NoPlace, PlaceLoop, NoDefiner, StrangeSlot, MissingSlot, ClearDefiner, StrangeVerb, Key, Object, Prop, Verb, Petition, TreeLink, Parent, Location, HasEnd, Loops, is_object_past, is_prop_past, is_verb_past, is_petition_past, is_lost, lacks_definer, is_strange, is_clear_definer, is_strange_verb, IsLeastBad, IsFirstLoop, rank, lost_kind, loop_kind, InRows, NoneBefore, IsLeast, IsFirstMet, IsFirstMissing, Slot}, proofs.InTurn.{none_more, none_yet}, proofs.Lacking.{none_missing, missing_first}, proofs.Least.{no_bad, none_met, object_first, prop_first, slot_first, verb_first, petition_first}}

abbrev pub of_object : Option ObjNo → Option Key
of_object o = option_map (λ x. Object x.0) o

abbrev pub of_prop : Option PropId → Option Key
of_prop o = option_map (λ id. Prop (pos id.0)) o

abbrev pub of_slot : Option (ObjNo × PropId) → Option Key
of_slot o = option_map (λ key. Slot key.0.0 (pos key.1.0)) o

abbrev pub of_verb : Option (ObjNo × VerbId) → Option Key
of_verb o = option_map (λ key. Verb key.0.0 (pos key.1.0)) o

apart : (b : Bool) → b ≡ false → ¬ (b ≡ true)
apart b e f = both_ways b e f

module _ (m : Maps) where
  pub lost_least : (link : TreeLink) (o : Option ObjNo) → IsLeastBad m.objects (λ k r. is_lost link m r ≡ false) (λ k r. is_lost link m r ≡ true) o → IsLeast (InRows m (lost_kind link)) (of_object o)
  lost_least Parent None f = none_met m NoParent (no_bad m.objects (λ k r. is_lost Parent m r ≡ false) (λ k r. is_lost Parent m r ≡ true) (λ k r. apart (is_lost Parent m r)) f) (λ id h. h) (λ key h. h) (λ key h. h) (λ id h. h)
  lost_least Parent (Some x) f = object_first m NoParent (λ k r. is_lost Parent m r ≡ false) (λ k r. is_lost Parent m r ≡ true) (λ x h. h) (λ x h. h) (λ k r. apart (is_lost Parent m r)) x f
  lost_least Location None f = none_met m NoPlace (no_bad m.objects (λ k r. is_lost Location m r ≡ false) (λ k r. is_lost Location m r ≡ true) (λ k r. apart (is_lost Location m r)) f) (λ id h. h) (λ key h. h) (λ key h. h) (λ id h. h)
  lost_least Location (Some x) f = object_first m NoPlace (λ k r. is_lost Location m r ≡ false) (λ k r. is_lost Location m r ≡ true) (λ x h. h) (λ x h. h) (λ k r. apart (is_lost Location m r)) x f

  ending : (link : TreeLink) (x : ObjNo) → HasEnd link m x → ¬ (Loops link m x)
  ending link x c f = f c.0 c.1

  pub loops_least : (link : TreeLink) (o : Option ObjNo) → IsFirstLoop link m o → IsLeast (InRows m (loop_kind link)) (of_object o)
  loops_least link o h1 = grind (arith, none_met, no_bad, ending, object_first)

  pub definer_least : (o : Option PropId) → IsLeastBad m.props (λ k r. lacks_definer m r ≡ false) (λ k r. lacks_definer m r ≡ true) o → IsLeast (InRows m NoDefiner) (of_prop o)
  definer_least None f = none_met m NoDefiner (λ x h. h) (no_bad m.props (λ k r. lacks_definer m r ≡ false) (λ k r. lacks_definer m r ≡ true) (λ k r. apart (lacks_definer m r)) f) (λ key h. h) (λ key h. h) (λ id h. h)
  definer_least (Some id) f = prop_first m NoDefiner (λ k r. lacks_definer m r ≡ false) (λ k r. lacks_definer m r ≡ true) (λ id h. h) (λ id h. h) (λ k r. apart (lacks_definer m r)) (λ y h. h) id f

  pub strange_least : (o : Option (ObjNo × PropId)) → IsLeastBad m.slots (λ k r. is_strange m k ≡ false) (λ k r. is_strange m k ≡ true) o → IsLeast (InRows m StrangeSlot) (of_slot o)
  strange_least o h1 = grind (arith, none_met, no_bad, apart, slot_first)

  pub missing_least : (o : Option (ObjNo × PropId)) → IsFirstMissing m o → IsLeast (InRows m MissingSlot) (of_slot o)
  missing_least o h1 = grind (arith, none_met, none_missing, missing_first)

  pub clear_least : (o : Option (ObjNo × PropId)) → IsLeastBad m.slots (λ k r. is_clear_definer m k r ≡ false) (λ k r. is_clear_definer m k r ≡ true) o → IsLeast (InRows m ClearDefiner) (of_slot o)
  clear_least None f = none_met m ClearDefiner (λ x h. h) (λ id h. h) (no_bad m.slots (λ k r. is_clear_definer m k r ≡ false) (λ k r. is_clear_definer m k r ≡ true) (λ k r. apart (is_clear_definer m k r)) f) (λ key h. h) (λ id h. h)
  clear_least (Some key) f = slot_first m ClearDefiner (λ k r. is_clear_definer m k r ≡ false) (λ k r. is_clear_definer m k r ≡ true) (λ k h. h) (λ k h. h) (λ k r. apart (is_clear_definer m k r)) (λ y h. h) (λ id h. h) key f

  pub verb_least : (o : Option (ObjNo × VerbId)) → IsLeastBad m.verbs (λ k r. is_strange_verb m k ≡ false) (λ k r. is_strange_verb m k ≡ true) o → IsLeast (InRows m StrangeVerb) (of_verb o)
  verb_least o h1 = grind (arith, none_met, no_bad, apart, verb_first)

  -- ---- numbers past the head, in four maps

  -- the kinds before are of cells
  pub none_of_cells : NoneBefore (InRows m) (rank PastHead)
  none_of_cells = grind (arith, none_more, none_yet, none_met)

  pub object_past : (x : ObjNo) → IsLeastBad m.objects (λ k r. is_object_past m.head k ≡ false) (λ k r. is_object_past m.head k ≡ true) (Some x) → IsLeast (InRows m PastHead) (Some (Object x.0))
  object_past x f = object_first m PastHead (λ k r. is_object_past m.head k ≡ false) (λ k r. is_object_past m.head k ≡ true) (λ x h. h) (λ x h. h) (λ k r. apart (is_object_past m.head k)) x f

  module _ (objects : IsLeastBad m.objects (λ k r. is_object_past m.head k ≡ false) (λ k r. is_object_past m.head k ≡ true) None) where
    pub prop_past : (id : PropId) → IsLeastBad m.props (λ k r. is_prop_past m.head k ≡ false) (λ k r. is_prop_past m.head k ≡ true) (Some id) → IsLeast (InRows m PastHead) (Some (Prop (pos id.0)))
    prop_past id f = prop_first m PastHead (λ k r. is_prop_past m.head k ≡ false) (λ k r. is_prop_past m.head k ≡ true) (λ id h. h) (λ id h. h) (λ k r. apart (is_prop_past m.head k)) (no_bad m.objects (λ k r. is_object_past m.head k ≡ false) (λ k r. is_object_past m.head k ≡ true) (λ k r. apart (is_object_past m.head k)) objects) id f

    module _ (props : IsLeastBad m.props (λ k r. is_prop_past m.head k ≡ false) (λ k r. is_prop_past m.head k ≡ true) None) where
      pub verb_past : (key : ObjNo × VerbId) → IsLeastBad m.verbs (λ k r. is_verb_past m.head k ≡ false) (λ k r. is_verb_past m.head k ≡ true) (Some key) → IsLeast (InRows m PastHead) (Some (Verb key.0.0 (pos key.1.0)))
      verb_past key f = verb_first m PastHead (λ k r. is_verb_past m.head k ≡ false) (λ k r. is_verb_past m.head k ≡ true) (λ k h. h) (λ k h. h) (λ k r. apart (is_verb_past m.head k)) (no_bad m.objects (λ k r. is_object_past m.head k ≡ false) (λ k r. is_object_past m.head k ≡ true) (λ k r. apart (is_object_past m.head k)) objects) (no_bad m.props (λ k r. is_prop_past m.head k ≡ false) (λ k r. is_prop_past m.head k ≡ true) (λ k r. apart (is_prop_past m.head k)) props) (λ key h. h) key f

      module _ (verbs : IsLeastBad m.verbs (λ k r. is_verb_past m.head k ≡ false) (λ k r. is_verb_past m.head k ≡ true) None) where
        pub petition_past : (id : PetitionId) → IsLeastBad m.petitions (λ k r. is_petition_past m.head k ≡ false) (λ k r. is_petition_past m.head k ≡ true) (Some id) → IsLeast (InRows m PastHead) (Some (Petition (pos id.0)))
        petition_past id f = petition_first m PastHead (λ k r. is_petition_past m.head k ≡ false) (λ k r. is_petition_past m.head k ≡ true) (λ id h. h) (λ id h. h) (λ k r. apart (is_petition_past m.head k)) (no_bad m.objects (λ k r. is_object_past m.head k ≡ false) (λ k r. is_object_past m.head k ≡ true) (λ k r. apart (is_object_past m.head k)) objects) (no_bad m.props (λ k r. is_prop_past m.head k ≡ false) (λ k r. is_prop_past m.head k ≡ true) (λ k r. apart (is_prop_past m.head k)) props) (λ key h. h) (no_bad m.verbs (λ k r. is_verb_past m.head k ≡ false) (λ k r. is_verb_past m.head k ≡ true) (λ k r. apart (is_verb_past m.head k)) verbs) id f

        pub none_past : IsLeastBad m.petitions (λ k r. is_petition_past m.head k ≡ false) (λ k r. is_petition_past m.head k ≡ true) None → NoneBefore (InRows m) (rank NoParent)
        none_past petitions = none_more (InRows m) PastHead none_of_cells (none_met m PastHead (no_bad m.objects (λ k r. is_object_past m.head k ≡ false) (λ k r. is_object_past m.head k ≡ true) (λ k r. apart (is_object_past m.head k)) objects) (no_bad m.props (λ k r. is_prop_past m.head k ≡ false) (λ k r. is_prop_past m.head k ≡ true) (λ k r. apart (is_prop_past m.head k)) props) (λ key h. h) (no_bad m.verbs (λ k r. is_verb_past m.head k ≡ false) (λ k r. is_verb_past m.head k ≡ true) (λ k r. apart (is_verb_past m.head k)) verbs) (no_bad m.petitions (λ k r. is_petition_past m.head k ≡ false) (λ k r. is_petition_past m.head k ≡ true) (λ k r. apart (is_petition_past m.head k)) petitions))

  -- ---- one after another

  pub told : (kind given : Kind) (key made : Key) → given ≡ kind → made ≡ key → NoneBefore (InRows m) (rank kind) → IsLeast (InRows m kind) (Some key) → IsFirstMet (InRows m) given made
  told kind given key made e f before least = grind arith

  pub after_lost : (link : TreeLink) → NoneBefore (InRows m) (rank (lost_kind link)) → IsLeast (InRows m (lost_kind link)) None → NoneBefore (InRows m) (rank (loop_kind link))
  after_lost link h1 h2 = grind (arith, none_more)
