-- What an object takes in: the relation and the test agree.
use Rattle.moo_world.proofs.Lemmas.{arith, ◌≡◌, Bool, true, false, List, [], ◌∷◌, refl, sym, ◌∙◌, ap, subst, Option, Some, None, ◌||◌, unwrap_or, option_map, option_and_then, option_or, list_any, Any, false≢true, Any-from_list_any, list_any-from_Any, none-some, same_Some, ObjNo, ObjRow, nothing, same_object, is_among, same_object-Decides, World, WorldObject, IsTree, Chain, IsUnder, is_object, row_of, chain, accept_along, accepts, HasList, own, inherited, Accepts, anything, listed, AcceptsIsTested, Chain-chain, chain-step, chain_of_none, under_from_among, among_from_under}

some_parent : (o : Option WorldObject) (next : ObjNo) → option_map (λ r. r.row.parent) o ≡ Some next → (r : WorldObject) × (o ≡ Some r) × (r.row.parent ≡ next)
some_parent o next e = grind arith

module _ (w : World) where
  accept_at : (x : ObjNo) (r : WorldObject) → w.object x ≡ Some r → option_and_then (λ r. r.accept) (row_of w x) ≡ r.row.accept
  accept_at x r e = ap (λ o. option_and_then (λ (r : ObjRow). r.accept) (option_map (λ (r : WorldObject). r.row) o)) e

  list_along : (l : List ObjNo) (x : ObjNo) (list : List ObjNo) → Chain w x l → accept_along w l ≡ Some list → HasList w x list
  list_along [] x list p e = absurd (none-some list e)
  list_along (y ∷ l) x list p e =
      let o = some_parent (w.object x) p.1 p.2 in
      by o.0 o.1 o.2 (list_along l p.1 list p.3) o.0.row.accept refl
    where
      first : (r : WorldObject) → w.object x ≡ Some r → option_or r.row.accept (accept_along w l) ≡ Some list
      first r g = ap (λ a. option_or a (accept_along w l)) (sym (accept_at x r g) ∙ ap (λ z. option_and_then (λ (r : ObjRow). r.accept) (row_of w z)) p.0) ∙ e

      by : (r : WorldObject) → w.object x ≡ Some r → r.row.parent ≡ p.1 → (accept_along w l ≡ Some list → HasList w p.1 list) → (a : Option (List ObjNo)) → r.row.accept ≡ a → HasList w x list
      by r g h up (Some own_list) k = own g (k ∙ ap Some (same_Some own_list list (ap (λ a. option_or a (accept_along w l)) (sym k) ∙ first r g)))
      by r g h up None k = inherited g k (subst (λ z. HasList w z list) (sym h) (up (ap (λ a. option_or a (accept_along w l)) (sym k) ∙ first r g)))

  module _ (t : IsTree w) where
    along_list : (x : ObjNo) (list : List ObjNo) → HasList w x list → accept_along w (chain w x) ≡ Some list
    along_list x list (own {entry = r} g k) = ap (accept_along w) (chain-step w t x r g) ∙ ap (λ a. option_or a (accept_along w (chain w r.row.parent))) (accept_at x r g ∙ k)
    along_list x list (inherited {entry = r} g k h) = grind (arith, along_list r.row.parent list h, chain-step, accept_at)

    list_of_chain : (x : ObjNo) (list : List ObjNo) → accept_along w (chain w x) ≡ Some list → HasList w x list
    list_of_chain x list e = by (is_object w x) refl
      where
        by : (b : Bool) → is_object w x ≡ b → HasList w x list
        by true o = list_along (chain w x) x list (Chain-chain w t x o) e
        by false o = absurd (none-some list (sym (ap (accept_along w) (chain_of_none w x o)) ∙ e))

    module _ (thing : ObjNo) (there : is_object w thing ≡ true) where
      Any-map : {P Q : ObjNo → Type 0} → ((a : ObjNo) → P a → Q a) → (l : List ObjNo) → Any P l → Any Q l
      Any-map f l h = (h.0, h.1, h.2, h.3, f h.1 h.4)

      above : (list : List ObjNo) → list_any (λ a. is_among a (chain w thing)) list ≡ true → Any (λ a. IsUnder w thing a) list
      above list e = Any-map (λ a. under_from_among w t thing a there) list (Any-from_list_any (λ a. is_among a (chain w thing)) list e)

      tested : (list : List ObjNo) → Any (λ a. IsUnder w thing a) list → list_any (λ a. is_among a (chain w thing)) list ≡ true
      tested list h = list_any-from_Any (λ a. is_among a (chain w thing)) list (Any-map (λ a. among_from_under w t thing a) list h)

      abbrev listed_by : Option (List ObjNo) → Bool
      listed_by list = unwrap_or (option_map (list_any (λ a. is_among a (chain w thing))) list) false

      pub from_test : (x : ObjNo) → accepts w x thing ≡ true → Accepts w x thing
      from_test x e = by (same_object nothing x) refl
        where
          on_list : (o : Option (List ObjNo)) → accept_along w (chain w x) ≡ o → listed_by o ≡ true → Accepts w x thing
          on_list None k h = absurd (false≢true h)
          on_list (Some list) k h = listed (list_of_chain x list k) (above list h)

          by : (b : Bool) → same_object nothing x ≡ b → Accepts w x thing
          by true k = anything (sym ((same_object-Decides nothing x).0 k))
          by false k = on_list (accept_along w (chain w x)) refl (sym (ap (λ b. b || listed_by (accept_along w (chain w x))) k) ∙ e)

      pub to_test : (x : ObjNo) → Accepts w x thing → accepts w x thing ≡ true
      to_test x h = grind (arith, same_object-Decides, listed, along_list, tested)

pub accepted : AcceptsIsTested
accepted w x thing t there = (from_test w t thing there x, to_test w t thing there x)
