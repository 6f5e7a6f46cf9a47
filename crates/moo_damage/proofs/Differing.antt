-- Where two lots of rows differ first.
use Rattle.moo_damage.{proofs.Words.{◌≡◌, pos, negsuc, None, Some, arith, get, ObjNo, PetitionId, PropId, VerbId, object_exact, prop_exact, slot_exact, verb_exact, petition_exact, Maps, object_total, prop_total, slot_total, verb_total, petition_total, Key, Head, Object, Prop, Verb, Petition, IsFirstUnlike, IsBelow, same_map, Slot, AgreeAt, IsFirstDifference}, proofs.Least.{number_less, pair_less}}

module _ (a b : Maps) where
  -- a key at which they differ, and below which no row of any map does
  first_at : (key : Key) → ¬ (AgreeAt a b key) → (IsBelow Head key → a.head ≡ b.head) → ((x : ObjNo) → IsBelow (Object x.0) key → get a.objects x ≡ get b.objects x)
      → ((id : PropId) → IsBelow (Prop (pos id.0)) key → get a.props id ≡ get b.props id) → ((k : ObjNo × PropId) → IsBelow (Slot k.0.0 (pos k.1.0)) key → get a.slots k ≡ get b.slots k)
      → ((k : ObjNo × VerbId) → IsBelow (Verb k.0.0 (pos k.1.0)) key → get a.verbs k ≡ get b.verbs k) → ((id : PetitionId) → IsBelow (Petition (pos id.0)) key → get a.petitions id ≡ get b.petitions id)
      → IsFirstDifference a b key
  first_at key n head o p s v r = grind arith

  module _ (head : a.head ≡ b.head) where
    module _ (objects : IsFirstUnlike a.objects b.objects None) where
      pub in_props : (id : PropId) → IsFirstUnlike a.props b.props (Some id) → IsFirstDifference a b (Prop (pos id.0))
      in_props id f = grind (arith, first_at, number_less)

      module _ (props : IsFirstUnlike a.props b.props None) where
        pub in_slots : (key : ObjNo × PropId) → IsFirstUnlike a.slots b.slots (Some key) → IsFirstDifference a b (Slot key.0.0 (pos key.1.0))
        in_slots key f = grind (arith, first_at, pair_less)

        module _ (slots : IsFirstUnlike a.slots b.slots None) where
          module _ (verbs : IsFirstUnlike a.verbs b.verbs None) where
            pub nowhere : IsFirstUnlike a.petitions b.petitions None → a ≡ b
            nowhere petitions =
                let o : a.objects ≡ b.objects = same_map object_total object_exact _ _ objects in
                let p : a.props ≡ b.props = same_map prop_total prop_exact _ _ props in
                let s : a.slots ≡ b.slots = same_map slot_total slot_exact _ _ slots in
                let v : a.verbs ≡ b.verbs = same_map verb_total verb_exact _ _ verbs in
                let r : a.petitions ≡ b.petitions = same_map petition_total petition_exact _ _ petitions in
                λ i. record { head = head i; objects = o i; props = p i; slots = s i; verbs = v i; petitions = r i }
