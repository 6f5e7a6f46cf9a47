-- Cases by the key of damage, and by the rank of its kind.
use Rattle.moo_cells.proofs.Words.{◌≡◌, ℕ, zero, suc, ◌<◌, ◌-◌, ℤ, [], ◌∷◌, get_or, refl, subst, arith, Kind, BadHead, BadCell, PastHead, NoParent, ParentLoop, NoPlace, PlaceLoop, NoDefiner, DoubleName, StrangeSlot, MissingSlot, ClearDefiner, StrangeVerb, Mismatch, Key, Object, Prop, Slot, Verb, Petition, rank, Tables, IsBadHead}
use Rattle.moo_damage.specs.declared.kind.Key.TheVariants.{Head}

-- what holds at the head and at each key of each table holds at each key
pub by_key : (P : Key → Type 0) → P Head → ((n : ℤ) → P (Object n)) → ((n : ℤ) → P (Prop n)) → ((n i : ℤ) → P (Slot n i)) → ((n i : ℤ) → P (Verb n i)) → ((n : ℤ) → P (Petition n)) → (key : Key) → P key
by_key P h o p s v t Head = h
by_key P h o p s v t (Object n) = o n
by_key P h o p s v t (Prop n) = p n
by_key P h o p s v t (Slot n i) = s n i
by_key P h o p s v t (Verb n i) = v n i
by_key P h o p s v t (Petition n) = t n

-- a bad head is met at no other key than the head
pub at_head : (t : Tables) (key : Key) → IsBadHead t key → key ≡ Head
at_head t = by_key (λ key. IsBadHead t key → key ≡ Head) (λ bad. refl) (λ n bad. absurd bad) (λ n bad. absurd bad) (λ n i bad. absurd bad) (λ n i bad. absurd bad) (λ n bad. absurd bad)

-- a kind is known by its rank
abbrev pub kind_at : ℕ → Kind
kind_at n = get_or (BadHead ∷ BadCell ∷ PastHead ∷ NoParent ∷ ParentLoop ∷ NoPlace ∷ PlaceLoop ∷ NoDefiner ∷ DoubleName ∷ StrangeSlot ∷ MissingSlot ∷ ClearDefiner ∷ StrangeVerb ∷ Mismatch ∷ []) (n - 1) BadHead

pub kind_again : (kind : Kind) → kind_at (rank kind) ≡ kind
kind_again BadHead = refl
kind_again kind = refl

-- so what holds of the first two kinds holds of each kind before the third
pub by_rank : (P : Kind → Type 0) → P BadHead → P BadCell → (kind : Kind) → rank kind < 3 → P kind
by_rank P head cell kind under = subst P (kind_again kind) (go (rank kind) under)
  where
    go : (n : ℕ) → n < 3 → P (kind_at n)
    go zero under = head
    go (suc zero) under = head
    go (suc (suc zero)) under = cell
    go (suc (suc (suc n))) under = absurd (omega arith)
