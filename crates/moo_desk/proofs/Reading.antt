-- Each connection that is due is read in a round.
use Rattle.std.proofs.Common.{◌≡◌, ◌⊎◌, ◌<◌, ◌≤◌, ◌+◌, leb, ◌&&◌, ◌||◌, not, add-one, Bool, true≢false, inl, inr, ℕ, zero, suc, List, [], ◌∷◌, length, get_or, set, drop, ◌-◌, ◌^◌, drop_of_length-le, refl, sym, ap, subst, ◌∙◌, true, false, min, arith}
use Rattle.std.specs.Prelude.{⊤}
use Rattle.std.specs.declared.io.Read as Reading
use Rattle.std.specs.declared.io.Write as Writing
use Rattle.std.specs.declared.time.Duration.{Duration}
use Rattle.moo_http_request.specs.declared.incoming.Incoming as Incoming
use Rattle.moo_desk.specs.declared.gate.Inward as Inward
use Rattle.moo_desk.specs.declared.gate.Outward as Outward
use Rattle.moo_desk.specs.{declared.slot.Slot.{Slot}, Rounds.{IsReadIfDue, IsTimed, ReadsDue, gathered_of}}
use Rattle.std.{proofs.lemmas.Bool.{leb-true}, proofs.lemmas.List.Sums.{sum_by-drop_more}}

pub saturated : (sum more rest left most : ℕ) → left ≡ more + rest → min (min (sum + more) most + rest) most ≡ min (sum + left) most
saturated sum more rest left most is = omega (arith, is)

pub all_counted : (sum rest all most : ℕ) → rest ≡ 0 → sum ≤ most → min (sum + rest) most ≡ min all most → sum ≡ min all most
all_counted sum rest all most none fits it = omega (arith, none, fits, it)

-- ---- tests

pub and_true : (a b : Bool) → a ≡ true → b ≡ true → (a && b) ≡ true
and_true true b p q = q
and_true false b p q = absurd (true≢false (sym p))

-- whose turn it is, if much is gathered and if not
pub may_be : (first full : Bool) → (full ≡ true → first ≡ true) → (first || not full) ≡ true
may_be true full goes = refl
may_be false false goes = refl
may_be false true goes = goes refl

pub is_much : (budget gathered all most : ℕ) → leb budget gathered ≡ true → gathered ≡ min all most → ¬ (all < budget)
is_much budget gathered all most full is less = absurd (omega (arith, leb-true budget gathered full, is, less))

module _ {R W : Type 0} {inward : Inward.Ghosts R} {incoming : Incoming.Ghosts R} {reader : Reading.Ghosts R} {outward : Outward.Ghosts W} {writer : Writing.Ghosts W} where
  -- so many of them had their turn, and the others are as they were
  abbrev pub ReadsSoFar : Type 0 → ℕ → List (Slot R W inward incoming reader outward writer) → List (Slot R W inward incoming reader outward writer) → Type 0
  ReadsSoFar All zero olds news = news ≡ olds
  ReadsSoFar All (suc n) [] [] = ⊤
  ReadsSoFar All (suc n) (old ∷ olds) (new ∷ news) = IsReadIfDue old new × (All ⊎ (old.rests ≡ true) → ReadsSoFar All n olds news)
  ReadsSoFar All (suc n) olds news = ⊥

  -- after so many of them the next one has its turn
  abbrev pub MayGoOn : Type 0 → ℕ → List (Slot R W inward incoming reader outward writer) → Type 0
  MayGoOn All zero olds = ⊤
  MayGoOn All (suc n) [] = ⊤
  MayGoOn All (suc n) (old ∷ olds) = (All ⊎ (old.rests ≡ true)) × MayGoOn All n olds

  -- until then the others are as they were
  pub still_at : (All : Type 0) (n : ℕ) (olds news : List (Slot R W inward incoming reader outward writer)) (d : Slot R W inward incoming reader outward writer) → n < length news → ReadsSoFar All n olds news → MayGoOn All n olds → get_or olds n d ≡ get_or news n d
  still_at All zero olds news d few it goes = ap (λ l. get_or l zero d) (sym it)
  still_at All (suc n) [] [] d few it goes = refl
  still_at All (suc n) (old ∷ olds) (new ∷ news) d few it goes = still_at All n olds news d (omega (arith, few)) (it.1 goes.0) goes.1
  still_at All (suc n) [] (new ∷ news) d few it goes = absurd it
  still_at All (suc n) (old ∷ olds) [] d few it goes = absurd it

  -- the next one has its turn
  reads_next : (All : Type 0) (n : ℕ) (olds news : List (Slot R W inward incoming reader outward writer)) (d z : Slot R W inward incoming reader outward writer) → n < length news → ReadsSoFar All n olds news
      → (MayGoOn All n olds → IsReadIfDue (get_or news n d) z) → ReadsSoFar All (suc n) olds (set news n z)
  reads_next All zero olds [] d z few it turn = absurd (omega (arith, few))
  reads_next All zero olds (new ∷ news) d z few it turn = subst (λ l. ReadsSoFar All (suc zero) l (z ∷ news)) it (turn tt, λ _. refl)
  reads_next All (suc n) [] [] d z few it turn = absurd (omega (arith, few))
  reads_next All (suc n) [] (new ∷ news) d z few it turn = absurd it
  reads_next All (suc n) (old ∷ olds) [] d z few it turn = absurd it
  reads_next All (suc n) (old ∷ olds) (new ∷ news) d z few it turn =
      (it.0, λ may. reads_next All n olds news d z (omega (arith, few)) (it.1 may) (λ goes. turn (may, goes)))

  pub reads_then : (All : Type 0) (n : ℕ) (olds news : List (Slot R W inward incoming reader outward writer)) (d z : Slot R W inward incoming reader outward writer) → n < length news → ReadsSoFar All n olds news
      → (MayGoOn All n olds → IsReadIfDue (get_or news n d) z) → ReadsSoFar All (n + 1) olds (set news n z)
  reads_then All n olds news d z few it turn = subst (λ m. ReadsSoFar All m olds (set news n z)) (sym (add-one n)) (reads_next All n olds news d z few it turn)

  -- one step back
  went_on : (All : Type 0) (n : ℕ) (olds : List (Slot R W inward incoming reader outward writer)) (d : Slot R W inward incoming reader outward writer) → n < length olds → MayGoOn All (suc n) olds
      → MayGoOn All n olds × (All ⊎ ((get_or olds n d).rests ≡ true))
  went_on All zero [] d few goes = absurd (omega (arith, few))
  went_on All zero (old ∷ olds) d few goes = (tt, goes.0)
  went_on All (suc n) [] d few goes = absurd (omega (arith, few))
  went_on All (suc n) (old ∷ olds) d few goes =
      let before = went_on All n olds d (omega (arith, few)) goes.1 in
      ((goes.0, before.0), before.1)

  -- one after another, those before the next one all rest
  pub first_then : (All : Type 0) (n : ℕ) (olds news : List (Slot R W inward incoming reader outward writer)) (d : Slot R W inward incoming reader outward writer) (first : Bool) → n < length news → length news ≡ length olds → ReadsSoFar All n olds news
      → (MayGoOn All n olds → ¬ All → first ≡ true) → MayGoOn All (n + 1) olds → ¬ All → (first && (get_or news n d).rests) ≡ true
  first_then All n olds news d first few same it so_far goes less =
      let before = went_on All n olds d (omega (arith, few, same)) (subst (λ m. MayGoOn All m olds) (add-one n) goes) in
      let rests : (get_or news n d).rests ≡ true = elim before.1 [ inl all ↦ absurd (less all) | inr is ↦ ap (λ slot. slot.rests) (sym (still_at All n olds news d few it before.0)) ∙ is ] in
      and_true first (get_or news n d).rests (so_far before.0 less) rests

  -- all had their turn
  pub reads_all : (All : Type 0) (n : ℕ) (olds news : List (Slot R W inward incoming reader outward writer)) → length news < suc n → ReadsSoFar All n olds news → ReadsDue All olds news
  reads_all All zero [] [] few it = tt
  reads_all All zero (old ∷ olds) [] few it = absurd (omega (arith, ap length it))
  reads_all All zero [] (new ∷ news) few it = absurd (omega (arith, few))
  reads_all All zero (old ∷ olds) (new ∷ news) few it = absurd (omega (arith, few))
  reads_all All (suc n) [] [] few it = tt
  reads_all All (suc n) (old ∷ olds) (new ∷ news) few it = (it.0, λ may. reads_all All n olds news (omega (arith, few)) (it.1 may))
  reads_all All (suc n) [] (new ∷ news) few it = absurd it
  reads_all All (suc n) (old ∷ olds) [] few it = absurd it

  -- ---- how many bytes are gathered

  pub gathered_next : (slots : List (Slot R W inward incoming reader outward writer)) (k sum : ℕ) (d : Slot R W inward incoming reader outward writer) → k < length slots
      → min (sum + gathered_of (drop k slots)) (2 ^ 64 - 1) ≡ min (gathered_of slots) (2 ^ 64 - 1)
      → min (min (sum + length (get_or slots k d).reader.bytes.items) (2 ^ 64 - 1) + gathered_of (drop (k + 1) slots)) (2 ^ 64 - 1) ≡ min (gathered_of slots) (2 ^ 64 - 1)
  gathered_next slots k sum d few it =
      saturated sum (length (get_or slots k d).reader.bytes.items) (gathered_of (drop (k + 1) slots)) (gathered_of (drop k slots)) (2 ^ 64 - 1) (sum_by-drop_more (λ (slot : Slot R W inward incoming reader outward writer). length slot.reader.bytes.items) slots k d few) ∙ it

  pub gathered_last : (slots : List (Slot R W inward incoming reader outward writer)) (k sum : ℕ) → length slots ≤ k → sum < 2 ^ 64
      → min (sum + gathered_of (drop k slots)) (2 ^ 64 - 1) ≡ min (gathered_of slots) (2 ^ 64 - 1) → sum ≡ min (gathered_of slots) (2 ^ 64 - 1)
  gathered_last slots k sum over fits it =
      let none : gathered_of (drop k slots) ≡ 0 = ap gathered_of (drop_of_length-le slots over) in
      all_counted sum (gathered_of (drop k slots)) (gathered_of slots) (2 ^ 64 - 1) none (omega (arith, fits)) it

  -- ---- the times of one connection

  pub timed_same : (now : Duration) (it : Slot R W inward incoming reader outward writer) → IsTimed now it it
  timed_same now it = record { since = refl; heard = inr (refl, refl); looked = inr refl }

  timed_heard : (now : Duration) (a b c : Slot R W inward incoming reader outward writer) → IsTimed now a b → IsTimed now b c → (c.heard ≡ now) ⊎ ((c.heard ≡ a.heard) × (c.reader.bytes.items ≡ a.reader.bytes.items))
  timed_heard now a b c p q = elim q.heard [
    | inl is ↦ inl is
    | inr same ↦ elim p.heard [
      | inl is ↦ inl (same.0 ∙ is)
      | inr before ↦ inr (same.0 ∙ before.0, same.1 ∙ before.1)
    ]
  ]

  timed_looked : (now : Duration) (a b c : Slot R W inward incoming reader outward writer) → IsTimed now a b → IsTimed now b c → (c.looked ≡ now) ⊎ (c.looked ≡ a.looked)
  timed_looked now a b c p q = elim q.looked [
    | inl is ↦ inl is
    | inr same ↦ elim p.looked [
      | inl is ↦ inl (same ∙ is)
      | inr before ↦ inr (same ∙ before)
    ]
  ]

  pub timed_joined : (now : Duration) (a b c : Slot R W inward incoming reader outward writer) → IsTimed now a b → IsTimed now b c → IsTimed now a c
  timed_joined now a b c p q = record { since = q.since ∙ p.since; heard = timed_heard now a b c p q; looked = timed_looked now a b c p q }
