-- Rows that show the entries of a map, one for one, hold it.
use Rattle.moo_cells.{proofs.Words.{◌≡◌, ℕ, ◌<◌, ◌+◌, suc, length, List, [], ◌∷◌, Bool, true, false, cond, find, drop, get_or, add-one, Some, refl, sym, ap, subst, ◌∙◌, true≢false, AllByRecursion, is_eq, eq_by_cmp, IsTotalOrder, tied_itself, Ordering, FinMap, entries, get-entries, IsAntisymmetric, Row, ShowEach, HoldsTable, IsRead, ShowsOrNone}, proofs.Table.{Bears, tied}}
use Rattle.std.{specs.FinMap.Entries.{find as entry_at}, proofs.Math.Seq.{drop-cons}}

-- what is left shows what is left, so that all shows all
abbrev pub ShowRest : {K X : Type 0} → (K → Row → X → Type 0) → (left all : List Row) (es every : List (K × X)) → Type 0
ShowRest reads left all es every = ShowEach reads left es → ShowEach reads all every

pub one_more : {K X : Type 0} (reads : K → Row → X → Type 0) (all : List Row) (i : ℕ) (r : Row) → i < length all → r ≡ get_or all i r → (old new every : List (K × X)) (e : K × X) → old ≡ e ∷ new → reads e.0 r e.1
    → ShowRest reads (drop i all) all old every → ShowRest reads (drop (i + 1) all) all new every
one_more reads all i r within is old new every e first shows rest later =
    let here : r ∷ drop (suc i) all ≡ drop i all = (λ j. is j ∷ drop (suc i) all) ∙ sym (drop-cons all i r within) in
    let tail : drop (i + 1) all ≡ drop (suc i) all = λ j. drop (add-one i j) all in
    rest (subst (λ l. ShowEach reads l old) here (subst (ShowEach reads (r ∷ drop (suc i) all)) (sym first) (shows, subst (λ l. ShowEach reads l new) tail later)))

module _ {J K X : Type 0} {has : J → Row → Bool} {number : K → J} {reads : K → Row → X → Type 0} {up : Row → Row → Type 0} {below : J → J → Type 0} (bears : Bears has number reads up below) where
  each_read : (rows : List Row) (es : List (K × X)) → ShowEach reads rows es → AllByRecursion (IsRead reads) rows
  each_read [] es show = tt
  each_read (r ∷ rows) [] show = absurd show
  each_read (r ∷ rows) (e ∷ es) show = ((e.0, e.1, show.0), each_read rows es show.1)

  each_found : {cmp : K → K → Ordering} → IsTotalOrder cmp → IsAntisymmetric cmp → (rows : List Row) (es : List (K × X)) → ShowEach reads rows es
      → (q : K) → ShowsOrNone (reads q) (find (has (number q)) rows) (entry_at cmp q es)
  each_found total exact [] [] show q = tt
  each_found total exact [] (e ∷ es) show q = absurd show
  each_found total exact (r ∷ rows) [] show q = absurd show
  each_found {cmp} total exact (r ∷ rows) (e ∷ es) show q = go (eq_by_cmp cmp q e.0) refl (each_found total exact rows es show.1 q)
    where
      go : (b : Bool) → eq_by_cmp cmp q e.0 ≡ b → ShowsOrNone (reads q) (find (has (number q)) rows) (entry_at cmp q es) → ShowsOrNone (reads q) (cond (has (number q) r) (Some r) (find (has (number q)) rows)) (cond b (Some e.1) (entry_at cmp q es))
      go true same later =
          let is : q ≡ e.0 = exact q e.0 (tied (cmp q e.0) same) in
          let mine : has (number q) r ≡ true = ap (λ k. has (number k) r) is ∙ bears.mine e.0 r e.1 show.0 in
          rw mine (subst (λ k. reads k r e.1) (sym is) show.0)
      go false other later = by (has (number q) r) refl
        where
          by : (c : Bool) → has (number q) r ≡ c → ShowsOrNone (reads q) (cond c (Some r) (find (has (number q)) rows)) (entry_at cmp q es)
          by true h = absurd (true≢false (sym (ap is_eq (tied_itself total q)) ∙ ap (λ k. eq_by_cmp cmp q k) (bears.one q e.0 (bears.only (number q) e.0 r e.1 show.0 h)) ∙ other))
          by false h = later

  pub each_held : {cmp : K → K → Ordering} → IsTotalOrder cmp → IsAntisymmetric cmp → (rows : List Row) (m : FinMap cmp X) → ShowEach reads rows (entries m) → HoldsTable has number reads rows m
  each_held {cmp} total exact rows m show = record {
    shown = λ q. subst (ShowsOrNone (reads q) (find (has (number q)) rows)) (sym (get-entries m q)) (each_found total exact rows (entries m) show q);
    read = each_read rows (entries m) show;
  }
