-- The next property of a definer is one alone.
use Rattle.moo_load.proofs.Words.{◌≡◌, Bool, Option, Some, None, sym, ◌∙◌, refl, nat_cmp_is, ranked, Less, false≢true, PropId, IsFirst, prop_cmp, Equal, Greater}

-- two that are the least past a number are one
pub one_first : (passes : PropId → Bool) (after : PropId) (found : Option PropId) (id : PropId) → IsFirst prop_cmp passes after found → IsFirst prop_cmp passes after (Some id) → found ≡ Some id
one_first passes after None id a b = absurd (false≢true (sym (a id b.1) ∙ b.0))
one_first passes after (Some j) id a b = elim (prop_cmp j id) as (λ o. prop_cmp j id ≡ o → Some j ≡ Some id) [
  | Less ↦ λ e. absurd (false≢true (sym (b.2 j a.1 e) ∙ a.0))
  | Equal ↦ λ e i. Some (record { 0 = ranked j.0 id.0 Equal (sym e) i })
  | Greater ↦ λ e. absurd (false≢true (sym (a.2 id b.1 (sym (nat_cmp_is id.0 j.0 Less (ranked j.0 id.0 Greater (sym e))))) ∙ b.0))
] refl
