-- The rows of one tree: the one that has a key, which a new row takes the place of, and those beside it.
use Rattle.moo_tables_rows.{proofs.Words.{◌≡◌, ℕ, ℤ, List, [], ◌∷◌, filter, map, drop, Some, Bool, true, false, not, IsTrue, true≢false, refl, sym, ap, subst, ◌∙◌, inl, inr, arith, list_all, is_eq, Equal, IsPermutation, length_permutation, not-true, Row, value_cmp, Int, Term, holds, eval_all, rowid, has_rowid, put_row, IsTable, id_in, without_all, put_all, cast_row, Given, Table, one_permutation, ids_of, AreConflicts, conflicts, is_int, Has, all_has, has_filtered, present_schema, AreKeyed}, proofs.QueryLemmas.{chosen}, proofs.KeyLemmas.{first_apart, ties_itself, tie_by, number_one, is_false, both_ways, filter_same, int_value, removed}, proofs.RowLemmas.{rest}}
use Rattle.sqlite.specs.Edit.{numbered}

pub none_kept : (test : Row → Bool) (rows : List Row) → ((r : Row) → Has rows r → test r ≡ false) → filter test rows ≡ []
none_kept test [] none = refl
none_kept test (r ∷ rows) none = rw (none r (inl refl)) (none_kept test rows (λ s in_it. none s (inr in_it)))

pub no_permutation : {X : Type 0} (ys : List X) → IsPermutation [] ys → ys ≡ []
no_permutation [] h = refl
no_permutation (y ∷ ys) h = absurd (let e = length_permutation [] (y ∷ ys) h in omega (arith, e))

-- the rows with the number of one of them are that one
pub alone : (rows : List Row) (r : Row) (id : ℤ) → IsTable rows → Has rows r → has_rowid id r ≡ true → filter (has_rowid id) rows ≡ r ∷ []
alone [] r id up in_it here = absurd in_it
alone (x ∷ rows) r id up (inl is) here =
    let first : has_rowid id x ≡ true = subst (λ y. has_rowid id y ≡ true) is here in
    let later = none_kept (has_rowid id) rows (λ y in_it. is_false _ (λ there. first_apart x y rows up in_it (tie_by x y id first there))) in
    rw first (ap (λ more. x ∷ more) later ∙ ap (λ y. y ∷ []) (sym is))
alone (x ∷ rows) r id up (inr in_it) here =
    let other = is_false (has_rowid id x) (λ first. first_apart x r rows up in_it (tie_by x r id first here)) in
    rw other (alone rows r id up.1 in_it here)

module _ {K : Type 0} (has : K → Row → Bool) (key : K) (rows : List Row) (keyed : AreKeyed rows) where
  -- a row with the key, by its number
  pub record Found (there : Row) : Type 0 where
    pub row : Row
    pub in_it : Has rows row
    pub here : has key row ≡ true
    pub number : ℤ
    pub numbered : rowid row ≡ Int number
    pub is : there ≡ Int number ∷ []

  pub found_first : (target : List ℕ) (table : Table) (new there : Row) (more : List Row) → AreConflicts (Some target) present_schema.indexes table rows new (there ∷ more)
      → ((r : Row) → Has rows r → conflicts (Some target) present_schema.indexes table new r ≡ has key r) → Found there
  found_first target table new there more met meets =
      let s = met.sound there (inl refl) in
      let value = int_value (rowid s.0) (all_has (λ r. IsTrue (is_int (rowid r))) rows s.0 keyed.1 s.1) in
      record { row = s.0; in_it = s.1; here = sym (meets s.0 s.1) ∙ s.2; number = id_in (rowid s.0); numbered = value; is = s.3 ∙ ap (λ v. v ∷ []) value }

  -- where no row has the key, the others are all
  pub all_free : ((r : Row) → Has rows r → has key r ≡ true → ⊥) → rows ≡ rest has key rows keyed
  all_free none = removed (has key) rows [] keyed (λ x in_it. absurd in_it) (λ r in_it passes. none r in_it passes)

  module _ (one : (r s : Row) → Has rows r → Has rows s → has key r ≡ true → has key s ≡ true → r ≡ s) (there : Row) (f : Found there) where
    pub itself : has_rowid f.number f.row ≡ true
    itself = ties_itself (rowid f.row) f.number f.numbered

    -- the row that has its number is the one that has its key
    pub same_row : (r : Row) → Has rows r → has_rowid f.number r ≡ has key r
    same_row r in_it = both_ways _ _ (λ h. subst (λ x. has key x ≡ true) (sym (number_one f.number rows keyed r f.row in_it f.in_it h itself)) f.here) (λ h. subst (λ x. has_rowid f.number x ≡ true) (sym (one r f.row in_it f.in_it h f.here)) itself)

    pub answers_one : (tests project : List Term) (given : Row) (answer : List Row) → ((r : Row) → Has rows r → list_all (holds (given ∷ r ∷ [])) tests ≡ has_rowid f.number r)
        → IsPermutation (map (λ r. eval_all project (given ∷ r ∷ [])) (chosen tests given rows)) answer → answer ≡ eval_all project (given ∷ f.row ∷ []) ∷ []
    answers_one tests project given answer picks same =
        let few : chosen tests given rows ≡ f.row ∷ [] = filter_same _ _ rows picks ∙ alone rows f.row f.number keyed.0 f.in_it itself in
        one_permutation _ answer (subst (λ rs. IsPermutation (map (λ r. eval_all project (given ∷ r ∷ [])) rs) answer) few same)

    -- the new row takes the place of the one that is there
    pub takes_place : (table : Table) (found : Row) (answer next : List Row) → answer ≡ found ∷ [] → rowid found ≡ Int f.number
        → next ≡ put_all (without_all rows (ids_of answer)) (numbered Given (without_all rows (ids_of answer)) (map (λ s. cast_row table (drop 1 s)) answer))
        → next ≡ put_row (cast_row table (drop 1 found)) (rest has key rows keyed)
    takes_place table found answer next is id it =
        let alone = subst (λ a. next ≡ put_all (without_all rows (ids_of a)) (numbered Given (without_all rows (ids_of a)) (map (λ s. cast_row table (drop 1 s)) a))) is it in
        alone ∙ ap (λ n. put_row (cast_row table (drop 1 found)) (without_all rows (n ∷ []))) (ap id_in id) ∙ ap (put_row (cast_row table (drop 1 found))) (filter_same (λ r. not (has_rowid f.number r)) (λ r. not (has key r)) rows (λ r in_it. ap not (same_row r in_it)))

    -- and none of the others has its number
    pub free_beside : (stored : Row) → rowid stored ≡ Int f.number → (r : Row) → Has (rest has key rows keyed) r → value_cmp (rowid r) (rowid stored) ≡ Equal → ⊥
    free_beside stored is r in_it tie =
        let was = has_filtered (λ r. not (has key r)) rows r in_it in
        let named : has_rowid f.number r ≡ true = ap is_eq (ap (value_cmp (rowid r)) (sym is) ∙ tie) in
        let same = number_one f.number rows keyed r f.row was.0 f.in_it named itself in
        true≢false (sym (subst (λ x. has key x ≡ true) (sym same) f.here) ∙ not-true _ was.1)
