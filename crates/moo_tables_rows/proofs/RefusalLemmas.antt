-- Why SQL refuses a write of our tables: it can, for its steps or for its rows' numbers, but not for its text, its types or its keys.
use Rattle.moo_tables_rows.{proofs.Words.{◌≡◌, ◌⊎◌, inl, inr, ℕ, zero, suc, ℤ, List, [], ◌∷◌, ◌++◌, length, drop, Bool, true, false, true≢false, ◌||◌, not, Option, Some, None, Err, Result, IsSome, refl, sym, ap, subst, ◌∙◌, arith, length-append, ◌/◌, ◌&&◌, nat_lt, AllByRecursion, list_all, Error, Row, Table, Trees, put_row, rowid, with_tree, Edit, edit_of, with_rowid, without_all, cast_row, Given, Chosen, Answers, RefusesQuery, value_rows, edit_error, Concludes, Task, Written, Edited, Updates, Deletes, InsertsOr, Tries, TriesEach, Judged, Upserts, Meets, Clears, Puts, shown, count_of, nothing, inner, end, Term, overlay, Enforced, Datatype, NotNull, Check, PrimaryKey, Unique, Keeps, passes, AreConflicts, ids_of, is_int, Column, Abort, Upsert, Values, Order, IsRefused, is_taken, taken_by, left_by, edited, are_fresh, have_rowids, is_referred, no_fold_overflows, accepts_program, accepts_terms, present_schema, table_of, Inserts, is_conflict}, proofs.TextLemmas.{plain_query, writes_where}}
use Rattle.sqlite.{specs.declared.error.Error.TheVariants.{SqliteFailure}, specs.declared.run.Mode.{Mode}}
use Rattle.sqlite.specs.declared.error.ErrorCode.TheVariants as code
use Rattle.sqlite_rules.{specs.declared.error.Refusal.{Refusal}, specs.declared.error.Refusal.TheVariants.{Violates, Mismatch, NoRowid, BadReference, TooDeep}, specs.Steps.{IsJudged, is_typed, is_present}, specs.Action.{works, Leads, Writes}}

-- all that SQL may refuse a write for
abbrev pub IsAllowed : Option ℕ → Error → Type 0
IsAllowed limit e = ((e ≡ SqliteFailure code.OperationInterrupted) × IsSome limit) ⊎ (e ≡ SqliteFailure code.NoRowid)

-- a part that stopped did so in its first part, or in its next
pub halted : {B E R : Type 0} {e : E} {Stopped : E → Type 0} → ((stop : E) × Stopped stop × ◌≡◌ {A = Result B E} (Err e) (Err stop)) ⊎ R → Stopped e ⊎ R
halted {B} {E} {R} {e} {Stopped} (inl h) = let same : h.0 ≡ e = (let x = h.2 in cc) in inl (subst Stopped same h.1)
halted (inr h) = inr h

-- ---- foreign keys: there are none

pub each : (rows : List Row) → AllByRecursion (λ row. true ≡ true) rows
each [] = tt
each (r ∷ rows) = (refl, each rows)

abbrev pub mode : Mode
mode = record { keys = Enforced; in_doubt = false; may_wait = false }

module _ (limit : Option ℕ) (table : Table) (params : Row) where
  abbrev pub task : Task
  task = record { limit = limit; keys = Enforced; schema = present_schema; table = table; params = params }

  pub concluded : (w : Written) (e : Error) → Concludes task mode None w (Err (Some e)) → ⊥
  concluded w e h = elim (halted h) [
    | inl tested ↦ tested.0 (each _, (each _, (each _, (each _, (each _, (each _, (each _, (each _, tt))))))))
    | inr more ↦ elim (halted more.2) [ inl gave ↦ absurd (let x = gave in cc) | inr gives ↦ absurd (let x = gives.2 in cc) ]
  ]

  -- so what failed is the change itself
  pub unconcluded : {Changes : Type 0} {Counts : Written → Type 0} (e : Error) → Changes ⊎ ((w : Written) × Counts w × Concludes task mode None w (Err (Some e))) → Changes
  unconcluded e (inl wrote) = wrote
  unconcluded e (inr done) = absurd (concluded done.0 e done.2)

-- ---- a query

pub queried : (limit : Option ℕ) (db : Trees) (params : Row) (tree : ℕ) (filter project : List Term) (e : Error) → accepts_program present_schema [] (plain_query tree filter project []) params ≡ true
    → RefusesQuery limit (record { schema = present_schema; trees = db }) (writes_where tree filter project) params e → (e ≡ SqliteFailure code.OperationInterrupted) × IsSome limit
queried limit db params tree filter project e accepted (inl h) = absurd (true≢false (sym accepted ∙ h.1))
queried limit db params tree filter project e accepted (inr (inl h)) =
    absurd (elim h.1 [ inl grouped ↦ grouped | inr folded ↦ no_fold_overflows (overlay db []) (inner tree end) (params ∷ []) refl folded ])
queried limit db params tree filter project e accepted (inr (inr h)) = h

-- ---- an edit

pub record IsClear (db : Trees) (edit : Edit) : Type 0 where
  pub typed : list_all (passes Datatype present_schema db edit.table) edit.news ≡ true
  pub present : list_all (passes NotNull present_schema db edit.table) edit.news ≡ true
  pub checked : list_all (passes Check present_schema db edit.table) edit.news ≡ true
  pub fresh : are_fresh (left_by db edit) edit.news ≡ true
  pub keyed : have_rowids edit.news ≡ true
  pub referred : is_referred present_schema Enforced edit ≡ true
  pub unique : Keeps Unique present_schema (with_tree db edit.table.tree (edited db edit))

both : {b : Bool} → b ≡ true → b ≡ false → ⊥
both p q = true≢false (sym p ∙ q)

not_refused : (db : Trees) (edit : Edit) → IsClear db edit → (why : Refusal) → IsRefused present_schema Enforced db edit why → edit_error why ≡ SqliteFailure code.NoRowid
not_refused db edit clear (Violates Datatype) h = absurd (both clear.typed h)
not_refused db edit clear (Violates NotNull) h = absurd (both clear.present h)
not_refused db edit clear (Violates Check) h = absurd (both clear.checked h)
not_refused db edit clear (Violates PrimaryKey) h = absurd (both clear.fresh h)
not_refused db edit clear (Violates Unique) h = absurd (h clear.unique)
not_refused db edit clear Mismatch h = absurd (both clear.keyed h)
not_refused db edit clear NoRowid h = refl
not_refused db edit clear BadReference h = absurd (both clear.referred h)
not_refused db edit clear why h = absurd h

settled : (db : Trees) (n : ℕ) (why : Refusal) → Leads present_schema Enforced n db [] (Err (Some why)) → ⊥
settled db zero why h = let e = h.1 in cc
settled db (suc n) why h = omega (arith, ap length h.2, length-append h.0 (h.1 ∷ []))

refused_by : (db : Trees) (edit : Edit) (why : Refusal) → works present_schema Enforced 0 edit.table.tree (taken_by db edit) edit.news ≡ [] → Writes present_schema Enforced db edit (Err (Some why)) → IsRefused present_schema Enforced db edit why
refused_by db edit why none (inl h) = let same : h.0 ≡ why = (let e = h.2 in cc) in subst (IsRefused present_schema Enforced db edit) same h.1
refused_by db edit why none (inr (inl h)) = absurd (let e = h.3 in cc)
refused_by db edit why none (inr (inr h)) = absurd (settled h.0 h.2.0 why (rw none at h.2.1))

pub edited_clear : (db : Trees) (edit : Edit) (e : Error) → IsClear db edit → Edited present_schema Enforced db edit (Err (Some e)) → e ≡ SqliteFailure code.NoRowid
edited_clear db edit e clear (None, wrote, is) = absurd (let x = is in cc)
edited_clear db edit e clear (Some why, wrote, is) = (let same : e ≡ edit_error why = (let x = is in cc) in same ∙ not_refused db edit clear why (refused_by db edit why refl wrote))

-- a refused edit whose rows have numbers, and to which nothing refers, broke a rule of its table, or no number is left
conflicting : (db : Trees) (edit : Edit) → have_rowids edit.news ≡ true → is_referred present_schema Enforced edit ≡ true → (why : Refusal) → IsRefused present_schema Enforced db edit why
    → (is_conflict (edit_error why) ≡ true) ⊎ (edit_error why ≡ SqliteFailure code.NoRowid)
conflicting db edit keyed referred (Violates rule) h = inl refl
conflicting db edit keyed referred Mismatch h = absurd (both keyed h)
conflicting db edit keyed referred NoRowid h = inr refl
conflicting db edit keyed referred BadReference h = absurd (both referred h)
conflicting db edit keyed referred TooDeep h = absurd h

edited_conflicts : (db : Trees) (edit : Edit) (e : Error) → have_rowids edit.news ≡ true → is_referred present_schema Enforced edit ≡ true → Edited present_schema Enforced db edit (Err (Some e))
    → (is_conflict e ≡ true) ⊎ (e ≡ SqliteFailure code.NoRowid)
edited_conflicts db edit e keyed referred (None, wrote, is) = absurd (let x = is in cc)
edited_conflicts db edit e keyed referred (Some why, wrote, is) =
    let same : e ≡ edit_error why = (let x = is in cc) in
    subst (λ x. (is_conflict x ≡ true) ⊎ (x ≡ SqliteFailure code.NoRowid)) (sym same) (conflicting db edit keyed referred why (refused_by db edit why refl wrote))

-- ---- a table of ours: no CHECK, no reference, nothing computed

fits : (adds removes : Bool) → ((not adds || true) && (not removes || true)) ≡ true
fits adds removes = grind arith

alone : (b : Bool) → b ≡ true → (b && true) ≡ true
alone b is = rw is refl

module _ (name : List ℕ) (tree : ℕ) (columns : List Column) (key : Option ℕ) (primary : List ℕ) (uniques : List (List ℕ)) (orders : List Order) (db : Trees) where
  abbrev t : Table
  t = table_of name tree columns key primary uniques orders

  -- rows go, and none comes
  pub clear_none : (gone : List ℤ) (from : ℕ) → Keeps Unique present_schema (with_tree db tree (without_all (db tree) gone)) → IsClear db (edit_of db t gone Given from [])
  clear_none gone from unique = record { typed = refl; present = refl; checked = refl; fresh = refl; keyed = refl; referred = fits false (nat_lt 0 (length gone)); unique = unique }

  -- one row comes, which passes what is asked of each row, and whose number is free
  pub record IsFit (row : Row) : Type 0 where
    pub typed : is_typed t row ≡ true
    pub present : is_present t row ≡ true
    pub keyed : is_int (rowid row) ≡ true

  pub clear_one : (gone : List ℤ) (from : ℕ) (source row : Row) → cast_row t (drop from source) ≡ row → IsFit row → is_taken (without_all (db tree) gone) row ≡ false
      → Keeps Unique present_schema (with_tree db tree (put_row row (without_all (db tree) gone))) → IsClear db (edit_of db t gone Given from (source ∷ []))
  clear_one gone from source row is fit free unique = record {
    typed = subst (λ r. (is_typed t r && true) ≡ true) (sym is) (alone _ fit.typed);
    present = subst (λ r. (is_present t r && true) ≡ true) (sym is) (alone _ fit.present);
    checked = refl;
    fresh = subst (λ r. (not (is_taken (without_all (db tree) gone) r) && true) ≡ true) (sym is) (rw free refl);
    keyed = subst (λ r. (is_int (rowid r) && true) ≡ true) (sym is) (alone _ fit.keyed);
    referred = fits true (nat_lt 0 (length gone));
    unique = subst (λ r. Keeps Unique present_schema (with_tree db tree (put_row r (without_all (db tree) gone)))) (sym is) unique;
  }

  module _ (limit : Option ℕ) (params : Row) (e : Error) where
    abbrev mine : Task
    mine = task limit t params

    -- what an update's query answers is clear, so all that is left is its steps, and the numbers
    pub update_stops : (given : Row) (filter project : List Term) → accepts_program present_schema [] (plain_query tree filter project []) given ≡ true
        → ((answer : List Row) → Answers (record { schema = present_schema; trees = db }) (writes_where tree filter project) given answer → IsClear db (edit_of db t (ids_of answer) Given 1 answer))
        → Updates mine (writes_where tree filter project) given db (Err (Some e)) → IsAllowed limit e
    update_stops given filter project accepted clear h = elim (halted h) [
      | inl asked ↦ inl (queried limit db given tree filter project e accepted asked)
      | inr rows ↦ elim (halted rows.2) [
        | inl wrote ↦ inr (edited_clear db (edit_of db t (ids_of rows.0) Given 1 rows.0) e (clear rows.0 rows.1) wrote)
        | inr next ↦ absurd (let x = next.2 in cc)
      ]
    ]

    -- a plain insertion of a row may meet one with its key; else all that is left is its steps, and the numbers
    pub insert_stops : (terms : List Term) (width : ℕ) (source row : Row) → accepts_terms terms (params ++ []) ≡ true → value_rows (params ++ []) width (length terms / width) terms ≡ source ∷ [] → with_rowid Chosen (db tree) (cast_row t source) ≡ row
        → is_int (rowid row) ≡ true → Inserts mine (Values terms width) db (Err (Some e)) → (is_conflict e ≡ true) ⊎ IsAllowed limit e
    insert_stops terms width source row accepted sources is keyed h = elim (halted h) [
      | inl asked ↦ elim asked [ inl bad ↦ absurd (true≢false (sym accepted ∙ bad.1)) | inr cut ↦ inr (inl cut) ]
      | inr rows ↦ elim (halted rows.2) [
        | inl counted ↦ absurd (let x = counted in cc)
        | inr counter ↦ elim (halted counter.2) [
          | inl wrote ↦ refused (subst (λ rs. Edited present_schema Enforced db (edit_of db t [] Chosen 0 rs) (Err (Some e))) (rows.1.1 ∙ sources) wrote)
          | inr put ↦ elim (halted put.2) [ inl counts ↦ absurd (let x = counts in cc) | inr next ↦ absurd (let x = next.2 in cc) ]
        ]
      ]
    ]
      where
        refused : Edited present_schema Enforced db (edit_of db t [] Chosen 0 (source ∷ [])) (Err (Some e)) → (is_conflict e ≡ true) ⊎ IsAllowed limit e
        refused wrote =
            let edit = edit_of db t [] Chosen 0 (source ∷ []) in
            let numbered : have_rowids edit.news ≡ true = subst (λ r. (is_int (rowid r) && true) ≡ true) (sym is) (alone _ keyed) in
            elim (edited_conflicts db edit e numbered (fits true false) wrote) [ inl met ↦ inl met | inr none ↦ inr (inr none) ]

    pub delete_stops : (filter project : List Term) → accepts_program present_schema [] (plain_query tree filter project []) params ≡ true
        → ((answer : List Row) → Answers (record { schema = present_schema; trees = db }) (writes_where tree filter project) params answer → IsClear db (edit_of db t (ids_of answer) Given 0 []))
        → Deletes mine (writes_where tree filter project) db (Err (Some e)) → IsAllowed limit e
    delete_stops filter project accepted clear h = elim (halted h) [
      | inl asked ↦ inl (queried limit db params tree filter project e accepted asked)
      | inr rows ↦ elim (halted rows.2) [
        | inl wrote ↦ inr (edited_clear db (edit_of db t (ids_of rows.0) Given 0 []) e (clear rows.0 rows.1) wrote)
        | inr next ↦ absurd (let x = next.2 in cc)
      ]
    ]

    put_stops : (row : Row) → IsClear db (edit_of db t [] Given 0 (row ∷ [])) → Puts mine row db (Err (Some e)) → IsAllowed limit e
    put_stops row clear h = elim (halted h) [
      | inl wrote ↦ inr (edited_clear db (edit_of db t [] Given 0 (row ∷ [])) e clear wrote)
      | inr next ↦ absurd (let x = next.2 in cc)
    ]

    clears_stop : (row : Row) (also : List Row) → IsClear db (edit_of db t [] Given 0 (row ∷ [])) → Clears mine Abort row db also (Err (Some e)) → IsAllowed limit e
    clears_stop row [] clear h = put_stops row clear h
    clears_stop row (x ∷ more) clear h = put_stops row clear h

    module _ (target : List ℕ) (filter project : List Term) where
      abbrev clause : Upsert
      clause = record { target = Some target; update = Some (writes_where tree filter project) }

      -- what an upsert meets: the row is put, or another is written over
      pub record Upserting (row : Row) : Type 0 where
        pub puts : AreConflicts (Some target) present_schema.indexes t (db tree) row [] → IsClear db (edit_of db t [] Given 0 (row ∷ []))
        pub overs : (there : Row) (more : List Row) → AreConflicts (Some target) present_schema.indexes t (db tree) row (there ∷ more) → Updates mine (writes_where tree filter project) (params ++ rowid there ∷ shown t row) db (Err (Some e)) → IsAllowed limit e

      met_stops : (row : Row) (found : List Row) → Upserting row → AreConflicts (Some target) present_schema.indexes t (db tree) row found → Meets mine (Upserts mine Abort row db []) row db clause found (Err (Some e)) → IsAllowed limit e
      met_stops row [] ups met h = clears_stop row h.0 (ups.puts met) h.2
      met_stops row (there ∷ more) ups met h = ups.overs there more met h

      judged_stops : (row : Row) (verdict : Option Refusal) → IsFit row → Upserting row → IsJudged t row verdict → Judged mine Abort (clause ∷ []) row db verdict (Err (Some e)) → IsAllowed limit e
      judged_stops row None fit ups is h = met_stops row h.0 ups h.1 h.2
      judged_stops row (Some Mismatch) fit ups is h = absurd (both fit.keyed is)
      judged_stops row (Some (Violates Datatype)) fit ups is h = absurd (both fit.typed is)
      judged_stops row (Some (Violates NotNull)) fit ups is h = absurd (both fit.present is)
      judged_stops row (Some (Violates Check)) fit ups is h = absurd (let x = is in cc)
      judged_stops row (Some why) fit ups is h = absurd is

      tried_stops : (row : Row) → IsFit row → Upserting row → Tries mine Abort (clause ∷ []) row db (Err (Some e)) → IsAllowed limit e
      tried_stops row fit ups (inl late) = inr (let x = late.1 in cc)
      tried_stops row fit ups (inr went) = judged_stops row went.0 fit ups went.1 went.2

      pub upsert_stops : (terms : List Term) (width : ℕ) (source row : Row) → accepts_terms terms (params ++ []) ≡ true → value_rows (params ++ []) width (length terms / width) terms ≡ source ∷ [] → with_rowid Chosen (db tree) (cast_row t source) ≡ row
          → IsFit row → Upserting row → InsertsOr mine Abort (clause ∷ []) (Values terms width) db (Err (Some e)) → IsAllowed limit e
      upsert_stops terms width source row accepted sources is fit ups h = elim (halted h) [
        | inl asked ↦ elim asked [ inl bad ↦ absurd (true≢false (sym accepted ∙ bad.1)) | inr cut ↦ inl cut ]
        | inr rows ↦ elim (halted rows.2) [
          | inl counted ↦ absurd (let x = counted in cc)
          | inr counter ↦ elim (halted counter.2) [
            | inl tried ↦ first_of (count_of counter.0) (subst (λ rs. TriesEach mine Abort (clause ∷ []) rs (count_of counter.0) (nothing db) (Err (Some e))) (rows.1.1 ∙ sources) tried)
            | inr done ↦ elim (halted done.2) [ inl counts ↦ absurd (let x = counts in cc) | inr next ↦ absurd (let x = next.2 in cc) ]
          ]
        ]
      ]
        where
          first_of : (top : ℤ) → TriesEach mine Abort (clause ∷ []) (source ∷ []) top (nothing db) (Err (Some e)) → IsAllowed limit e
          first_of top h = elim (halted h) [
            | inl tried ↦ tried_stops row fit ups (subst (λ r. Tries mine Abort (clause ∷ []) r db (Err (Some e))) is tried)
            | inr one ↦ absurd (let x = one.2 in cc)
          ]
