-- Where two maps differ first.
use Rattle.moo_damage.{proofs.Words.{arith, ◌≡◌, Option, None, Some, Ordering, Less, Equal, Greater, refl, sym, ap, ◌∙◌, subst, IsTotalOrder, match_ordering, ordering_reverse, FinMap, get, CmpEqualImpliesEq, IsFirstUnlike, lesser}, specs.Differences.{IsLeastUnlike}}

-- what each of two has the other has too, so both have the same
both_agree : {X : Type 0} (a b : Option X) → ((r : X) → a ≡ Some r → b ≡ Some r) → ((r : X) → b ≡ Some r → a ≡ Some r) → a ≡ b
both_agree a b f g = grind arith

module _ {K X : Type 0} {cmp : K → K → Ordering} (total : IsTotalOrder cmp) (exact : CmpEqualImpliesEq cmp) (a b : FinMap cmp X) where
  by_order : (x y : K) (o : Ordering) → cmp y x ≡ o → IsLeastUnlike a b (Some x) → IsLeastUnlike b a (Some y) → IsFirstUnlike a b (match_ordering o (Some y) (Some x) (Some x))
  by_order x y Less e f g = (
    λ h. g.2 (h ∙ g.1),
    λ k l. both_agree (get a k) (get b k) (λ r. f.3 k r (total.trans k y x l e)) (λ r. g.3 k r l),
  )
  by_order x y Equal e f g =
      let same : y ≡ x = exact y x e in (
        λ h. f.2 (sym h ∙ f.1),
        λ k l. both_agree (get a k) (get b k) (λ r. f.3 k r l) (λ r. g.3 k r (subst (λ z. cmp k z ≡ Less) (sym same) l)),
      )
  by_order x y Greater e f g = (
    λ h. f.2 (sym h ∙ f.1),
    λ k l. both_agree (get a k) (get b k) (λ r. f.3 k r l) (λ r. g.3 k r (total.trans k x y l (total.antisymm x y ∙ ap ordering_reverse e))),
  )

  pub first_unlike : (o p : Option K) → IsLeastUnlike a b o → IsLeastUnlike b a p → IsFirstUnlike a b (lesser cmp o p)
  first_unlike None None f g = λ k. both_agree (get a k) (get b k) (f k) (g k)
  first_unlike (Some x) None f g = (λ h. f.2 (sym h ∙ f.1), λ k l. both_agree (get a k) (get b k) (λ r. f.3 k r l) (g k))
  first_unlike None (Some y) f g = (λ h. g.2 (h ∙ g.1), λ k l. both_agree (get a k) (get b k) (f k) (λ r. g.3 k r l))
  first_unlike (Some x) (Some y) f g = by_order x y (cmp y x) refl f g
