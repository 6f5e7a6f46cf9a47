-- The first key that passes, among keys that may.
use Rattle.moo_rows.{proofs.Words.{arith, ◌≡◌, ◌≢◌, Bool, true, false, ◌||◌, cond, Option, None, Some, List, [], ◌∷◌, Less, Equal, Greater, Ordering, is_some, refl, sym, ap, ◌∙◌, subst, T, unwrap_or, option_map, IsTotalOrder, tied_itself, is_lt, is_eq, ordering_reverse, ordering_then, filter, FinMap, find, is_sorted, entries, entries_sorted, get-entries, get-insert, get-remove, below_all, OnOk, OnErr, CmpEqualImpliesEq, true≢false, ObjNo, lesser, IsPast, IsNext, is_past, entries_past, IsFirst}, proofs.Orders.{object_total}, proofs.Walking.{key_cmp, first_of, second_of, elsewhere, here, past_test, past_is, below, not_held, all_past, all_past_key, keeps, drops, some_none}}
use Rattle.std.{specs.declared.result.Result.{Result}}
use Rattle.std.specs.FinMap as map

-- ---- by a superset

module _ {K : Type 0} {cmp : K → K → Ordering} (total : IsTotalOrder cmp) (exact : CmpEqualImpliesEq cmp) (may passes : K → Bool) (covers : (q : K) → may q ≡ false → passes q ≡ false) where
  pub first-none : (after : K) → IsFirst cmp may after None → IsFirst cmp passes after None
  first-none after h q past = covers q (h q past)

  pub first-found : (after key : K) → IsFirst cmp may after (Some key) → passes key ≡ true → IsFirst cmp passes after (Some key)
  first-found after key h is = (is, h.1, λ q past less. covers q (h.2 q past less))

  split_at : (key q : K) → (cmp q key ≡ Less → passes q ≡ false) → passes key ≡ false → (cmp key q ≡ Less → passes q ≡ false) → passes q ≡ false
  split_at key q before at above = grind arith

  -- what is first past a key that doesn't pass is first past what that was first past
  pub first-skipped : (after key : K) → IsFirst cmp may after (Some key) → passes key ≡ false → (r : Option K) → IsFirst cmp passes key r → IsFirst cmp passes after r
  first-skipped after key h1 h2 r h3 = grind (arith, split_at)

-- ---- of two tests

pub or_first : (a b : Bool) → (a || b) ≡ false → a ≡ false
or_first a b h1 = grind (arith, true≢false)

pub or_second : (a b : Bool) → (a || b) ≡ false → b ≡ false
or_second a b h1 = grind (arith, true≢false)

-- the lesser of two that are first is first of both
module _ {K : Type 0} {cmp : K → K → Ordering} (total : IsTotalOrder cmp) (exact : CmpEqualImpliesEq cmp) (a b : K → Bool) where
  pub either-first : (after : K) (r s : Option K) → IsFirst cmp a after r → IsFirst cmp b after s → IsFirst cmp (λ q. a q || b q) after (lesser cmp r s)
  either-first after r s h1 h2 = grind arith

-- tests that answer alike have one first key
pub first-alike : {K : Type 0} (cmp : K → K → Ordering) (a b : K → Bool) → ((q : K) → a q ≡ b q) → (after : K) (r : Option K) → IsFirst cmp a after r → IsFirst cmp b after r
first-alike cmp a b h1 after r h2 = grind arith

-- ---- of pairs

pub next-first : {K X : Type 0} {cmp : K → K → Ordering} (m : FinMap cmp X) (after : K) (r : Option K) → IsNext m (Some after) r → IsFirst cmp (λ q. is_some (map.get m q)) after r
next-first m after r h1 = grind arith

pair_past : {I : Type 0} (number_cmp : I → I → Ordering) (x : ObjNo) (a b : I) → number_cmp a b ≡ Less → key_cmp number_cmp (x, a) (x, b) ≡ Less
pair_past number_cmp x a b h = ap (λ o. ordering_then o (number_cmp a b)) (tied_itself object_total x) ∙ h

module _ {I X : Type 0} (number_cmp : I → I → Ordering) where
  pub pair-none : (m : FinMap (key_cmp number_cmp) X) (x : ObjNo) (after : I) → IsNext m (Some (x, after)) None → IsFirst number_cmp (λ q. is_some (map.get m (x, q))) after None
  pair-none m x after h q past = ap is_some (h (x, q) (pair_past number_cmp x after q past))

-- ---- puts and removals

module _ {K X : Type 0} {cmp : K → K → Ordering} (total : IsTotalOrder cmp) where
  pub lacked-insert : (m : FinMap cmp X) (k : K) (v : X) (q : K) → is_some (map.get (map.insert m k v) q) ≡ false → is_some (map.get m q) ≡ false
  lacked-insert m k v q h = grind (arith, get-insert, true≢false)

  pub lacked-put : {U E : Type 0} (result : Result U E) (old new : FinMap cmp X) (k : K) (v : X) → OnOk result (new ≡ map.insert old k v) → OnErr result (new ≡ old) → (q : K) → is_some (map.get new q) ≡ false → is_some (map.get old q) ≡ false
  lacked-put result old new k v h1 h2 q h3 = grind (arith, lacked-insert)

  pub has-insert : (m : FinMap cmp X) (k : K) (v : X) → is_some (map.get (map.insert m k v) k) ≡ true
  has-insert m k v = ap is_some (get-insert total m k v k) ∙ ap (λ o. is_some (cond (is_eq o) (Some v) (map.get m k))) (tied_itself total k)

  pub lacked-remove : CmpEqualImpliesEq cmp → (m : FinMap cmp X) (k q : K) → q ≢ k → is_some (map.get (map.remove m k) q) ≡ false → is_some (map.get m q) ≡ false
  lacked-remove exact m k q apart h = grind (arith, get-remove)

-- ---- walks over the entries that pass

module _ {K X : Type 0} {cmp : K → K → Ordering} (total : IsTotalOrder cmp) (exact : CmpEqualImpliesEq cmp) (test : X → Bool) where
  abbrev read : Option X → Bool
  read o = unwrap_or (option_map test o) false

  abbrev those : List (K × X) → List (K × X)
  those es = filter (λ e. test e.1) es

  -- the entries past a key that pass
  abbrev pub those_past : K → List (K × X) → List (K × X)
  those_past from es = those (entries_past cmp (Some from) es)

  keeps_row : (e : K × X) (es : List (K × X)) → test e.1 ≡ true → those (e ∷ es) ≡ e ∷ those es
  keeps_row e es h = ap (λ b. cond b (e ∷ those es) (those es)) h

  drops_row : (e : K × X) (es : List (K × X)) → test e.1 ≡ false → those (e ∷ es) ≡ those es
  drops_row e es h = ap (λ b. cond b (e ∷ those es) (those es)) h

  tail : (e : K × X) (es : List (K × X)) → T (below_all cmp e.0 es) → (q : K) → read (find cmp q (e ∷ es)) ≡ false → read (find cmp q es) ≡ false
  tail e es low q h = grind (arith, elsewhere, not_held)

  own : (e : K × X) (es : List (K × X)) → read (find cmp e.0 (e ∷ es)) ≡ false → test e.1 ≡ false
  own e es h = sym (ap read (here cmp e.0 e es (ap is_eq (tied_itself total e.0)))) ∙ h

  none_pass : (from : K) (es : List (K × X)) → T (is_sorted cmp es) → ((q : K) → cmp from q ≡ Less → read (find cmp q es) ≡ false) → those_past from es ≡ []
  none_pass from [] sorted h = refl
  none_pass from (e ∷ es) sorted h =
      let rest = none_pass from es (second_of _ _ sorted) (λ q past. tail e es (first_of _ _ sorted) q (h q past)) in
      elim (is_past cmp (Some from) e.0) as (λ b. is_past cmp (Some from) e.0 ≡ b → those_past from (e ∷ es) ≡ []) [
        | true ↦ λ p. ap those (keeps (is_past cmp (Some from)) e es p) ∙ drops_row e (entries_past cmp (Some from) es) (own e es (h e.0 (past_is cmp (Some from) e.0 p))) ∙ rest
        | false ↦ λ p. ap those (drops (is_past cmp (Some from)) e es p) ∙ rest
      ] refl

  next_passes : (from k : K) (row : X) (es : List (K × X)) → T (is_sorted cmp es) → find cmp k es ≡ Some row → test row ≡ true → cmp from k ≡ Less
      → ((q : K) → cmp from q ≡ Less → cmp q k ≡ Less → read (find cmp q es) ≡ false) → those_past from es ≡ (k, row) ∷ those_past k es
  next_passes from k row [] sorted held is past between = absurd (some_none row (sym held))
  next_passes from k row (e ∷ es) sorted held is past between =
      elim (cmp k e.0) as (λ o. cmp k e.0 ≡ o → those_past from (e ∷ es) ≡ (k, row) ∷ those_past k (e ∷ es)) [
        | Less ↦ λ o. absurd (some_none row (sym held ∙ elsewhere cmp k e es (ap is_eq o) ∙ below cmp total k e.0 es o (first_of _ _ sorted)))
        | Equal ↦ λ o.
            let key : k ≡ e.0 = exact k e.0 o in
            let value : Some e.1 ≡ Some row = sym (here cmp k e es (ap is_eq o)) ∙ held in
            let same : e.1 ≡ row = cc in
            let entry : ◌≡◌ {A = K × X} e (k, row) = λ i. (sym key i, same i) in
            let past_e : IsPast cmp (Some from) e.0 = subst (IsPast cmp (Some from)) key past in
            ap those (keeps (is_past cmp (Some from)) e es (past_test cmp (Some from) e.0 past_e))
            ∙ keeps_row e (entries_past cmp (Some from) es) (ap test same ∙ is)
            ∙ ap (λ t. e ∷ those t) (all_past cmp total (Some from) e.0 es past_e (first_of _ _ sorted))
            ∙ ap (λ x. x ∷ those es) entry
            ∙ ap (λ t. (k, row) ∷ those t) (sym (drops (is_past cmp (Some k)) e es (ap is_lt o)
            ∙ all_past_key cmp total k es (subst (λ q. T (below_all cmp q es)) (sym key) (first_of _ _ sorted))))
        | Greater ↦ λ o.
            let less : cmp e.0 k ≡ Less = total.antisymm e.0 k ∙ ap ordering_reverse o in
            let rest = next_passes from k row es (second_of _ _ sorted) (sym (elsewhere cmp k e es (ap is_eq o)) ∙ held) is past (λ q p l. tail e es (first_of _ _ sorted) q (between q p l)) in
            let passed : those_past from (e ∷ es) ≡ those_past from es =
            elim (is_past cmp (Some from) e.0) as (λ b. is_past cmp (Some from) e.0 ≡ b → those_past from (e ∷ es) ≡ those_past from es) [
              | true ↦ λ p. ap those (keeps (is_past cmp (Some from)) e es p) ∙ drops_row e (entries_past cmp (Some from) es) (own e es (between e.0 (past_is cmp (Some from) e.0 p) less))
              | false ↦ λ p. ap those (drops (is_past cmp (Some from)) e es p)
            ] refl in
            passed ∙ rest ∙ ap (λ t. (k, row) ∷ those t) (sym (drops (is_past cmp (Some k)) e es (ap is_lt o)))
      ] refl

  pub first-end : (m : FinMap cmp X) (from : K) → IsFirst cmp (λ q. unwrap_or (option_map test (map.get m q)) false) from None → those_past from (entries m) ≡ []
  first-end m from h = none_pass from (entries m) (entries_sorted m) (λ q past. sym (ap read (get-entries m q)) ∙ h q past)

  pub first-step : (m : FinMap cmp X) (from k : K) (row : X) → IsFirst cmp (λ q. unwrap_or (option_map test (map.get m q)) false) from (Some k) → map.get m k ≡ Some row → those_past from (entries m) ≡ (k, row) ∷ those_past k (entries m)
  first-step m from k row h held = grind (arith, next_passes, entries_sorted, get-entries)

pub on_ok : {U E : Type 0} {A B : Type 0} (result : Result U E) → (A → B) → OnOk result A → OnOk result B
on_ok result h1 h2 = grind arith
