-- The rows of one tree, after a query of the row with a key and an update of that: the row is written over, or there is none and all stay.
use Rattle.moo_tables_rows.{proofs.Words.{arith, ◌≡◌, ◌⊎◌, inl, inr, List, [], ◌∷◌, ◌&&◌, map, drop, length, Bool, true, false, true≢false, IsTrue, refl, sym, ap, subst, ◌∙◌, list_all, list_any, and_parts, IsPermutation, Row, Int, Term, holds, eval_all, rowid, put_row, id_in, without_all, put_all, cast_row, Given, Table, ids_of, is_int, Has, all_has, some_has, some_from, AreKeyed}, proofs.QueryLemmas.{chosen}, proofs.KeyLemmas.{is_false, int_value}, proofs.RowLemmas.{rest}, proofs.OverLemmas.{Found, none_kept, no_permutation, same_row, answers_one, takes_place}}
use Rattle.sqlite.specs.Edit.{numbered}

asked_alike : (a b c : Bool) → (c ≡ true → a ≡ b) → (a && c) ≡ (b && c)
asked_alike a b c same = grind (arith, same)

module _ {K : Type 0} (has : K → Row → Bool) (key : K) (rows : List Row) (keyed : AreKeyed rows) (one : (r s : Row) → Has rows r → Has rows s → has key r ≡ true → has key s ≡ true → r ≡ s) (tests project : List Term) (given : Row) (answer : List Row) where
  -- what a query of the row with a key answers: that row, or none
  pub record OneRow : Type 0 where
    pub there : Row
    pub row : Found has key rows keyed there
    pub is : answer ≡ eval_all project (given ∷ row.row ∷ []) ∷ []

  module _ (also : Row → Bool) (picks : (r : Row) → Has rows r → list_all (holds (given ∷ r ∷ [])) tests ≡ (also r && has key r)) (same : IsPermutation (map (λ r. eval_all project (given ∷ r ∷ [])) (chosen tests given rows)) answer) where
    only_row : (r : Row) → Has rows r → has key r ≡ true → also r ≡ true → OneRow
    only_row r in_it here asked =
        let there = Int (id_in (rowid r)) ∷ [] in
        let f : Found has key rows keyed there = record { row = r; in_it = in_it; here = here; number = id_in (rowid r); numbered = int_value (rowid r) (all_has (λ r. IsTrue (is_int (rowid r))) rows r keyed.1 in_it); is = refl } in
        let alike = λ (s : Row) (p : Has rows s). asked_alike (also s) (also r) (has key s) (λ h. ap also (one s r p in_it h here)) ∙ ap (λ b. b && has key s) asked in
        record { there = there; row = f; is = answers_one has key rows keyed one there f tests project given answer (λ s p. picks s p ∙ alike s p ∙ sym (same_row has key rows keyed one there f s p)) same }

    pub one_or_none : OneRow ⊎ ((answer ≡ []) × ((r : Row) → Has rows r → (also r && has key r) ≡ false))
    one_or_none = go (list_any (λ r. also r && has key r) rows) refl
      where
        go : (b : Bool) → list_any (λ r. also r && has key r) rows ≡ b → OneRow ⊎ ((answer ≡ []) × ((r : Row) → Has rows r → (also r && has key r) ≡ false))
        go true e = let r = some_has (λ r. also r && has key r) rows e in let both = and_parts (also r.0) (has key r.0) r.2 in inl (only_row r.0 r.1 both.1 both.0)
        go false e =
            let none = λ (r : Row) (in_it : Has rows r). is_false (also r && has key r) (λ here. true≢false (sym (some_from (λ r. also r && has key r) rows r in_it here) ∙ e)) in
            let few : chosen tests given rows ≡ [] = none_kept (λ r. list_all (holds (given ∷ r ∷ [])) tests) rows (λ r in_it. picks r in_it ∙ none r in_it) in
            inr (no_permutation answer (subst (λ rs. IsPermutation (map (λ s. eval_all project (given ∷ s ∷ [])) rs) answer) few same), none)

  module _ (table : Table) where
    abbrev news : List Row → List Row
    news answer = numbered Given (without_all rows (ids_of answer)) (map (λ s. cast_row table (drop 1 s)) answer)

    abbrev after : List Row → List Row
    after answer = put_all (without_all rows (ids_of answer)) (news answer)

    pub record IsOver : Type 0 where
      pub there : Row
      pub row : Found has key rows keyed there
      pub after_is : after answer ≡ put_row (cast_row table (drop 1 (eval_all project (given ∷ row.row ∷ [])))) (rest has key rows keyed)
      pub count : length (news answer) ≡ 1

    pub record IsLeft : Type 0 where
      pub none : (r : Row) → Has rows r → has key r ≡ false
      pub after_is : after answer ≡ rows
      pub count : length (news answer) ≡ 0

    pub over_or_left : ((r : Row) → list_all (holds (given ∷ r ∷ [])) tests ≡ has key r) → ((r : Row) → rowid (eval_all project (given ∷ r ∷ [])) ≡ rowid r)
        → IsPermutation (map (λ r. eval_all project (given ∷ r ∷ [])) (chosen tests given rows)) answer → IsOver ⊎ IsLeft
    over_or_left picks names same = elim (one_or_none (λ r. true) (λ r in_it. picks r) same) [
      | inl o ↦ inl (record {
        there = o.there;
        row = o.row;
        after_is = takes_place has key rows keyed one o.there o.row table (eval_all project (given ∷ o.row.row ∷ [])) answer (after answer) o.is (names o.row.row ∙ o.row.numbered) refl;
        count = ap (λ a. length (news a)) o.is;
      })
      | inr l ↦ inr (record { none = l.1; after_is = ap after l.0; count = ap (λ a. length (news a)) l.0 })
    ]
