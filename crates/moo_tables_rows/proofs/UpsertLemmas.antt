-- What an upsert makes of the tables, whatever they are: it puts its row, or writes over the first row that has its key.
use Rattle.moo_tables_rows.{proofs.Words.{◌≡◌, inl, inr, ℕ, ◌/◌, ℤ, List, [], ◌∷◌, ◌++◌, length, slice_get, Option, Some, None, Ok, Err, sym, ap, subst, ◌∙◌, Row, Term, Table, Schema, Values, InsertOr, edit_of, with_rowid, Applies, cast_row, Chosen, Given, Tally, Does, Task, Written, Puts, Clears, Meets, Upserts, Judged, TriesEach, Tries, count_of, nothing, shown, Trees, rowid, Database, Answers, value_rows, edit_error, State, mode_of, Writes, Enforced, Abort, Upsert, Program, Column, Order, taken_by, AreConflicts, ids_of, one_step, table_of}, proofs.StepLemmas.{SetsOffNothing, went, same_value}}
use Rattle.sqlite_rules.specs.declared.error.Refusal.{Refusal}

module _ (schema : Schema) (table : Table) (db : Trees) (params : Row) (q : Program) where
  abbrev pub PutsIt : Row → Trees → Type 0
  PutsIt row next = Applies schema Enforced db (edit_of db table [] Given 0 (row ∷ [])) next

  -- the update's query answers old rowids with new rows: these rowids go, and these rows come
  pub record WritesOver (row there : Row) (next : Trees) : Type 0 where
    pub answer : List Row
    pub answers : Answers (record { schema = schema; trees = db }) q (params ++ rowid there ∷ shown table row) answer
    pub applies : Applies schema Enforced db (edit_of db table (ids_of answer) Given 1 answer) next

  -- where no row has the key the row is put, else the first that has it is written over
  abbrev pub Settles : Row → List Row → Trees → Type 0
  Settles row [] next = PutsIt row next
  Settles row (there ∷ more) next = WritesOver row there next

module _ (schema : Schema) (none : SetsOffNothing schema) (at : ℕ) (name : List ℕ) (tree : ℕ) (columns : List Column) (key : Option ℕ) (primary : List ℕ) (uniques : List (List ℕ)) (orders : List Order)
    (is : slice_get schema.tables at ≡ Some (table_of name tree columns key primary uniques orders)) (old new : State) (has : old.now.schema ≡ schema) (text : List ℕ) (params : Row) (count : ℕ) (target : List ℕ) (q : Program) where
  abbrev table : Table
  table = table_of name tree columns key primary uniques orders

  task : Task
  task = record { limit = old.step_limit; keys = Enforced; schema = schema; table = table; params = params }

  abbrev clause : Upsert
  clause = record { target = Some target; update = Some q }

  abbrev Ends : Row → List Row → Trees → Type 0
  Ends = Settles schema table old.now.trees params q

  pub record Upserted (row : Row) : Type 0 where
    pub found : List Row
    pub conflicts : AreConflicts (Some target) schema.indexes table (old.now.trees tree) row found
    pub schema_is : new.now.schema ≡ schema
    pub settles : Ends row found new.now.trees

  put_one : (row : Row) (one : Written) → Puts task row old.now.trees (Ok one) → PutsIt schema table old.now.trees params q row one.trees
  unfolding task
  put_one row one h =
      let put = went h in
      let edit = edit_of old.now.trees table [] Given 0 (row ∷ []) in
      let step = one_step schema Enforced old.now.trees put.0 edit (none table.tree (taken_by old.now.trees edit) edit.news) put.1 in
      let same : one.trees ≡ put.0 = ap (λ (it : Written). it.trees) (same_value put.2) in
      subst (Applies schema Enforced old.now.trees edit) (sym same) step

  -- under no other key can a row conflict: the row is put, whatever else is found
  puts_anew : (row : Row) (also : List Row) (one : Written) → Clears task Abort row old.now.trees also (Ok one) → PutsIt schema table old.now.trees params q row one.trees
  puts_anew row [] one h = put_one row one h
  puts_anew row (x ∷ more) one h = put_one row one h

  settles_as : (row : Row) (found : List Row) (one : Written) → Meets task (Upserts task Abort row old.now.trees []) row old.now.trees clause found (Ok one) → Ends row found one.trees
  unfolding task
  settles_as row [] one h = puts_anew row h.0 one h.2
  settles_as row (there ∷ more) one h =
      let asked = went h in
      let written = went asked.2 in
      let edit = edit_of old.now.trees table (ids_of asked.0) Given 1 asked.0 in
      let step = one_step schema Enforced old.now.trees written.0 edit (none table.tree (taken_by old.now.trees edit) edit.news) written.1 in
      let same : one.trees ≡ written.0 = ap (λ (it : Written). it.trees) (same_value written.2) in
      record { answer = asked.0; answers = asked.1; applies = subst (Applies schema Enforced old.now.trees edit) (sym same) step }

  abbrev Met : Row → Written → Type 0
  Met row one = (found : List Row) × AreConflicts (Some target) schema.indexes table (old.now.trees tree) row found × Meets task (Upserts task Abort row old.now.trees []) row old.now.trees clause found (Ok one)

  judged : (row : Row) (verdict : Option Refusal) (one : Written) → Judged task Abort (clause ∷ []) row old.now.trees verdict (Ok one) → Met row one
  unfolding task
  judged row None one h = h
  judged row (Some why) one h = absurd (let e : Ok one ≡ Err (Some (edit_error why)) = h in cc)

  tried_as : (row : Row) (one : Written) → Tries task Abort (clause ∷ []) row old.now.trees (Ok one) → Met row one
  unfolding task
  tried_as row one (inl late) = absurd (let e = late.1 in cc)
  tried_as row one (inr went) = judged row went.0 one went.2

  pub upserts : (terms : List Term) (width : ℕ) (source : Row) → value_rows (params ++ []) width (length terms / width) terms ≡ source ∷ []
      → Writes old new None (InsertOr at Abort (Values terms width) (clause ∷ [])) text params count
      → Upserted (with_rowid Chosen (old.now.trees tree) (cast_row table source))
  unfolding task
  upserts terms width source alone w =
      let db = old.now.trees in
      let begun = subst (λ s. Does old.step_limit (mode_of old) params (record old.now { schema = s }) text None (InsertOr at Abort (Values terms width) (clause ∷ [])) (Ok (w.tally, new.now))) has w.changed in
      let done = went (rw is at begun) in
      let now = ap (λ (p : Tally × Database). p.1) (same_value (went (went done.2).2).2) in
      let given = went done.1 in
      let counter = went given.2 in
      let tried = went counter.2 in
      let counted = went tried.2 in
      let rows : given.0 ≡ source ∷ [] = given.1.1 ∙ alone in
      let first = went (subst (λ rows. TriesEach task Abort (clause ∷ []) rows (count_of counter.0) (nothing db) (Ok tried.0)) rows tried.1) in
      let row = with_rowid Chosen (db tree) (cast_row table source) in
      let met = tried_as row first.0 first.1 in
      let last : tried.0.0.trees ≡ first.0.trees = ap (λ (t : Written × ℤ). t.0.trees) (same_value first.2) in
      let trees : new.now.trees ≡ first.0.trees =
      ap (λ (d : Database). d.trees) now ∙ ap (λ (it : Written). it.trees) (same_value counted.2) ∙ same_value counted.1 ∙ last in
      record {
        found = met.0;
        conflicts = met.1;
        schema_is = ap (λ (d : Database). d.schema) now;
        settles = subst (Ends row met.0) (sym trees) (settles_as row met.0 first.0 met.2);
      }
