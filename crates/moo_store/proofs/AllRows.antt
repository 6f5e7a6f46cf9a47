-- The rows of a map, each as a change from none.
use Rattle.moo_store.{proofs.Words.{arith, ◌≡◌, ◌≢◌, cond, T, ◌&&◌, List, [], ◌∷◌, ◌++◌, Option, None, Some, Ordering, refl, sym, ap, ◌∙◌, subst, true, false, eq_by_cmp, is_lt, FinMap, find, get, is_sorted, entries, entries_sorted, get-entries, IsChanges, as_changes, all_of, PrintEach, append_assoc, append-nil}, proofs.Written.{one_more}}
use Rattle.std.{specs.Option.{option_map}, specs.FinMap.Entries.{below_all}}

module _ {K X : Type 0} (cmp : K → K → Ordering) where
  below_changes : (k : K) (es : List (K × X)) → below_all cmp k (as_changes es) ≡ below_all cmp k es
  below_changes k [] = refl
  below_changes k (e ∷ es) = ap (λ b. is_lt (cmp k e.0) && b) (below_changes k es)

  sorted_changes : (es : List (K × X)) → is_sorted cmp (as_changes es) ≡ is_sorted cmp es
  sorted_changes [] = refl
  sorted_changes (e ∷ es) = ap (λ b. b && is_sorted cmp (as_changes es)) (below_changes e.0 es) ∙ ap (λ b. below_all cmp e.0 es && b) (sorted_changes es)

  found_change : (k : K) (es : List (K × X)) → find cmp k (as_changes es) ≡ option_map Some (find cmp k es)
  found_change k [] = refl
  found_change k (e ∷ es) =
      elim (eq_by_cmp cmp k e.0) as (λ b. cond b (Some (Some e.1)) (find cmp k (as_changes es)) ≡ option_map Some (cond b (Some e.1) (find cmp k es))) [
        | true ↦ refl
        | false ↦ found_change k es
      ]

-- a row that is found as a change from none is a row
row_of : {X : Type 0} (o : Option X) (row : Option X) → option_map Some o ≡ Some row → (row ≡ o) × (row ≢ None)
row_of o row is = grind arith

none_of : {X : Type 0} (o : Option X) → option_map (λ x. Some x) o ≡ None → None ≡ o
none_of o is = grind arith

-- all rows are what changed from none
pub all_changed : {K X : Type 0} (cmp : K → K → Ordering) (m : FinMap cmp X) → IsChanges cmp (λ _. None) (get m) (all_of m)
all_changed cmp m = record {
  ascending = subst T (sym (sorted_changes cmp (entries m))) (entries_sorted m);
  listed = λ k row is. let it = row_of (find cmp k (entries m)) row (sym (found_change cmp k (entries m)) ∙ is) in (it.0 ∙ sym (get-entries m k), it.1);
  others = λ k is. none_of (find cmp k (entries m)) (sym (found_change cmp k (entries m)) ∙ is) ∙ sym (get-entries m k);
}

-- ---- printed one after another

as_changes-append : {K X : Type 0} (es fs : List (K × X)) → as_changes (es ++ fs) ≡ as_changes es ++ as_changes fs
as_changes-append [] fs = refl
as_changes-append (e ∷ es) fs = ap (λ rest. (e.0, Some e.1) ∷ rest) (as_changes-append es fs)

-- the rows that are left stand behind those that are printed
pub record ArePrinted {K C X : Type 0} (prints : K → C → X → Type 0) (cells : List (K × Option C)) (left all : List (K × X)) : Type 0 where
  pub done : List (K × X)
  pub whole : done ++ left ≡ all
  pub printed : PrintEach prints cells (as_changes done)

pub none_printed : {K C X : Type 0} (prints : K → C → X → Type 0) (left all : List (K × X)) → left ≡ all → ArePrinted prints [] left all
none_printed prints left all is = record { done = []; whole = is; printed = tt }

pub one_printed : {K C X : Type 0} (prints : K → C → X → Type 0) (cells : List (K × Option C)) (old new all : List (K × X)) (e : K × X) (printed : C) → old ≡ e ∷ new → prints e.0 printed e.1
    → ArePrinted prints cells old all → ArePrinted prints (cells ++ (e.0, Some printed) ∷ []) new all
one_printed prints cells old new all e printed first shows it = record {
  done = it.done ++ e ∷ [];
  whole = append_assoc it.done (e ∷ []) new ∙ ap (λ left. it.done ++ left) (sym first) ∙ it.whole;
  printed = subst (PrintEach prints (cells ++ (e.0, Some printed) ∷ [])) (sym (as_changes-append it.done (e ∷ [])))
      (one_more prints cells (as_changes it.done) (e.0, Some printed) (e.0, Some e.1) it.printed refl shows);
}

pub all_printed : {K C X : Type 0} (prints : K → C → X → Type 0) (cells : List (K × Option C)) (left all : List (K × X)) → left ≡ [] → ArePrinted prints cells left all → PrintEach prints cells (as_changes all)
all_printed prints cells left all none it = subst (λ es. PrintEach prints cells (as_changes es)) (sym (append-nil it.done) ∙ ap (λ rest. it.done ++ rest) (sym none) ∙ it.whole) it.printed
