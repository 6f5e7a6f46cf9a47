-- The rows of one tree after an upsert: its row is put if none has its key, or stands in place of the row that has it, or that row is left.
use Rattle.moo_tables_rows.{proofs.Words.{◌≡◌, ◌≢◌, ◌⊎◌, inl, inr, ℕ, ℤ, List, [], ◌∷◌, ◌++◌, ◌&&◌, map, drop, Some, Bool, true, false, refl, sym, ap, subst, ◌∙◌, list_all, Equal, IsPermutation, Row, value_cmp, Int, Term, holds, eval_all, Trees, rowid, has_rowid, put_row, shown, overlay, IsNoIndex, without_all, put_all, next_rowid, cast_row, Given, Table, ids_of, AreConflicts, conflicts, Has, present_schema, AreKeyed, Null}, proofs.TextLemmas.{writes_where}, proofs.QueryLemmas.{chosen, shows_all}, proofs.RowLemmas.{rest}, proofs.OverLemmas.{found_first, same_row, all_free, takes_place, free_beside}, proofs.UpdateLemmas.{one_or_none}, proofs.UpsertLemmas.{Settles, WritesOver}, proofs.KindLemmas.{Kind, written_as}}
use Rattle.sqlite.specs.Edit.{numbered}

-- the trees of the other tables are as they were
abbrev pub OthersStay : ℕ → Trees → Trees → Type 0
OthersStay tree db next = (t : ℕ) → t ≢ tree → IsNoIndex present_schema t → next t ≡ db t

module _ (k : Kind) (t : Table) (key : k.Key) (db next : Trees) (keyed : AreKeyed (db t.tree)) where
  abbrev rows : List Row
  rows = db t.tree

  -- the row has a number that none of the others has
  pub record Stands (tail : Row) : Type 0 where
    pub number : ℤ
    pub rows_are : next t.tree ≡ put_row (Int (k.number number key) ∷ k.columns key ++ tail) (rest k.has key rows keyed)
    pub free : (r : Row) → Has (rest k.has key rows keyed) r → value_cmp (rowid r) (Int (k.number number key)) ≡ Equal → ⊥
    pub others : OthersStay t.tree db next

  -- the row that has the key is not asked for, and nothing is written
  pub record Stays (also : Row → Bool) : Type 0 where
    pub row : Row
    pub in_it : Has rows row
    pub here : k.has key row ≡ true
    pub left : also row ≡ false
    pub rows_are : next t.tree ≡ rows
    pub others : OthersStay t.tree db next

  module _ (told : k.Told rows) (bare : overlay db [] t.tree ≡ db t.tree) (params tail : Row) (tests project : List Term) (also : Row → Bool) where
    abbrev source : Row
    source = Int (k.number (next_rowid rows) key) ∷ k.columns key ++ tail

    abbrev given : ℤ → Row
    given id = params ++ Int id ∷ shown t source

    pub settles : ((r : Row) → conflicts (Some k.terms.primary) present_schema.indexes t source r ≡ k.has key r) → ((id : ℤ) → cast_row t (Int (k.number id key) ∷ k.columns key ++ tail) ≡ Int (k.number id key) ∷ k.columns key ++ tail)
        → ((id : ℤ) (r : Row) → list_all (holds (given id ∷ r ∷ [])) tests ≡ (also r && has_rowid id r)) → ((id : ℤ) (r : Row) → eval_all project (given id ∷ r ∷ []) ≡ rowid r ∷ rowid r ∷ k.kept r ++ tail)
        → (found : List Row) → AreConflicts (Some k.terms.primary) present_schema.indexes t rows source found → Settles present_schema t db params (writes_where t.tree tests project) source found next → Stands tail ⊎ Stays also
    settles meets kept picks overs [] met it =
        inl (record { number = next_rowid rows; rows_are = it.rows ∙ ap (λ r. put_row r rows) (kept (next_rowid rows)) ∙ ap (put_row source) (all_free k.has key rows keyed (λ r in_it passes. met.complete r in_it (meets r ∙ passes))); free = k.free key rows keyed; others = it.others })
    settles meets kept picks overs (x ∷ more) met it =
        let f = found_first k.has key rows keyed k.terms.primary t source x more met (λ r in_it. meets r) in
        let one = k.one rows keyed told key in
        let values = given f.number in
        let here = subst (λ there. WritesOver present_schema t db params (writes_where t.tree tests project) source there next) f.is it in
        let shows = subst (λ rs. IsPermutation (map (λ r. eval_all project (values ∷ r ∷ [])) (chosen tests values rs)) here.answer) bare (shows_all t.tree tests project [] (overlay db []) values here.answer (here.answers.answer Null)) in
        elim (one_or_none k.has key rows keyed one tests project values here.answer also (λ r in_it. picks f.number r ∙ ap (λ b. also r && b) (same_row k.has key rows keyed one x f r in_it)) shows) [
          | inl o ↦ (
              let g = o.row in
              let written = takes_place k.has key rows keyed one o.there g t (eval_all project (values ∷ g.row ∷ [])) here.answer (next t.tree) o.is (ap rowid (overs f.number g.row) ∙ g.numbered) here.applies.rows in
              let row = written_as k rows told key g.row g.in_it g.here g.number g.numbered _ tail (overs f.number g.row) in
              inl (record {
                number = g.number;
                rows_are = written ∙ ap (λ r. put_row (cast_row t r) (rest k.has key rows keyed)) row ∙ ap (λ r. put_row r (rest k.has key rows keyed)) (kept g.number);
                free = free_beside k.has key rows keyed one o.there g (Int (k.number g.number key) ∷ k.columns key ++ tail) (ap Int (k.named key g.row g.number g.here g.numbered));
                others = here.applies.others;
              }))
          | inr none ↦ inr (record {
            row = f.row;
            in_it = f.in_it;
            here = f.here;
            left = only (also f.row) (k.has key f.row) f.here (none.1 f.row f.in_it);
            rows_are = here.applies.rows ∙ ap (λ a. put_all (without_all rows (ids_of a)) (numbered Given (without_all rows (ids_of a)) (map (λ s. cast_row t (drop 1 s)) a))) none.0;
            others = here.applies.others;
          })
        ]
      where
        only : (a b : Bool) → b ≡ true → (a && b) ≡ false → a ≡ false
        only true b is none = sym is ∙ none
        only false b is none = refl
