-- Kinds one after another.
use Rattle.moo_damage.proofs.Words.{◌≡◌, ℕ, suc, ◌<◌, Bool, true, false, Option, None, Some, List, [], ◌∷◌, get_or, refl, sym, ap, ◌∙◌, subst, arith, nat_lt, nat_tests, Kind, BadHead, BadCell, PastHead, NoParent, ParentLoop, NoPlace, PlaceLoop, NoDefiner, DoubleName, StrangeSlot, MissingSlot, ClearDefiner, StrangeVerb, Mismatch, Key, rank, NoneBefore, IsLeast, IsFirstMet, IfSome, IsFirstBefore}

abbrev kinds : List Kind
kinds = BadHead ∷ BadHead ∷ BadCell ∷ PastHead ∷ NoParent ∷ ParentLoop ∷ NoPlace ∷ PlaceLoop ∷ NoDefiner ∷ DoubleName ∷ StrangeSlot ∷ MissingSlot ∷ ClearDefiner ∷ StrangeVerb ∷ Mismatch ∷ []

at_place : (k : Kind) → get_or kinds (rank k) BadHead ≡ k
at_place k = grind arith

one_place : (k l : Kind) → rank k ≡ rank l → k ≡ l
one_place k l e = sym (at_place k) ∙ ap (λ n. get_or kinds n BadHead) e ∙ at_place l

module _ (meets : Kind → Key → Type 0) where
  -- no kind is before the first
  pub none_yet : NoneBefore meets (rank BadHead)
  none_yet k l key = grind (arith, at_place)

  -- after a kind that isn't met, the next
  pub none_more : (kind : Kind) → NoneBefore meets (rank kind) → IsLeast (meets kind) None → NoneBefore meets (suc (rank kind))
  none_more kind before none k l key = grind (arith, one_place)

  -- a first of the kinds before a place is a first of all
  pub first_told : (n : ℕ) (o : Option (Kind × Key)) → IsFirstBefore meets n o → IfSome o (λ d. IsFirstMet meets d.0 d.1)
  first_told n o h1 = grind arith
