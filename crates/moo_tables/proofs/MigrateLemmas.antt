-- What the migration does.
use Rattle.moo_tables.{proofs.Words.{◌≡◌, ℕ, List, [], ◌∷◌, filter, not, true, Option, Ok, Err, Result, OnOk, IsTrue, refl, sym, subst, ◌∙◌, Null, Error, Row, col, overlay, understood, State, HasCleanDisk, statement_of, runs_as, ObjNo, PropId, SlotCells, Tables, present_schema, slot_tree, with_each, with_head_cells, with_slot_cells, migrated, AreKeyed, Holds, Sees, HasTables, StaysInside, Changes, RanStatement, HasNoSlot, IsEarlier, empty_slots_text, empty_slots, rowids_where, clean_before, only_first, slots_in_turn, shows_all, moo_quiet, went_out, SetsTree, schema_seen, sees_same, deletes}, proofs.GrowLemmas.{Becomes}}
use Rattle.moo_rows.specs.declared.row.Head.{Head}

-- ---- a table that is emptied

pub empties_beside : (old new : State) (r : Result ℕ Error) → RanStatement empty_slots_text [] old new r → OnOk r (HasCleanDisk new → (tables : Tables) → Sees old tables → Sees new tables)
empties_beside old new (Err e) ran = tt
empties_beside old new (Ok count) ran = λ clean tables seen.
    let it = ran clean in
    let has = schema_seen seen in
    let w = runs_as empty_slots_text [] old new present_schema has _ empty_slots.command empty_slots.plain count it.1 in
    let step = deletes present_schema moo_quiet 3 _ _ _ _ _ _ _ refl old new has (statement_of empty_slots_text (understood present_schema empty_slots_text)) [] count (rowids_where 3 []) w in
    let sets : SetsTree old new 3 (new.now.trees 3) = record { schema_is = step.2.schema_is; sound = w.sound; is_open = w.shown.is_open; inside = it.0; rows_are = refl; others = step.2.applies.others } in
    sees_same sets tables seen (λ e. cc) (λ e. cc) (λ e. cc) (λ e. cc) (λ e. cc) (λ e. cc) (λ e. cc)

none_left : (rows : List Row) → filter (λ r. not true) rows ≡ []
none_left [] = refl
none_left (r ∷ rows) = none_left rows

pub empties : (old new : State) (r : Result ℕ Error) → RanStatement empty_slots_text [] old new r → OnOk r (HasCleanDisk new → HasTables present_schema old → AreKeyed (old.now.trees 3) → new.now.trees 3 ≡ [])
empties old new (Err e) ran = tt
empties old new (Ok count) ran = λ clean has keyed.
    let it = ran clean in
    let rows = old.now.trees 3 in
    let w = runs_as empty_slots_text [] old new present_schema has _ empty_slots.command empty_slots.plain count it.1 in
    let step = deletes present_schema moo_quiet 3 _ _ _ _ _ _ _ refl old new has (statement_of empty_slots_text (understood present_schema empty_slots_text)) [] count (rowids_where 3 []) w in
    let shown = shows_all 3 [] (col 1 0 ∷ []) [] (overlay old.now.trees []) [] step.0 (step.1.answer Null) in
    step.2.applies.rows ∙ went_out (λ (key : Unit {0}) r. true) tt rows keyed [] [] [] step.0 shown (λ r. refl) ∙ none_left rows

pub goes_on : (old new : State) (text : List ℕ) (params : Row) (r : Result ℕ Error) → RanStatement text params old new r → HasCleanDisk new → OnOk r (IsTrue new.in_transaction)
goes_on old new text params (Err e) ran clean = tt
goes_on old new text params (Ok count) ran clean = (ran clean).0

-- ---- the statements of the migration, one after another

pub all_migrated : (a : State) {b d e z : State} (head : Head) (slots : List ((ObjNo × PropId) × Option SlotCells)) (r : Result ℕ Error) → StaysInside b d → StaysInside d e → StaysInside e z
    → Becomes a b → Changes (with_head_cells head) b d → Changes (with_each with_slot_cells slots) d e → OnOk r (HasCleanDisk z → (tables : Tables) → Sees e tables → Sees z tables)
    → OnOk r (HasCleanDisk z → HasTables present_schema e → AreKeyed (e.now.trees 3) → HasNoSlot z.now.trees)
    → OnOk r (HasCleanDisk z → (tables : Tables) → Holds a.now tables → IsEarlier tables.version → Sees z (migrated head slots tables) × HasNoSlot z.now.trees)
all_migrated a {b} {d} {e} {z} head slots (Err error) quiet-two quiet-three quiet-four one two three four five = tt
all_migrated a {b} {d} {e} {z} head slots (Ok count) quiet-two quiet-three quiet-four one two three four five = λ clean tables holds earlier.
    let late = clean_before e z _ quiet-four.survives clean in
    let mid = clean_before d e _ quiet-three.survives late in
    let early = clean_before b d _ quiet-two.survives mid in
    let first_step = one early tables holds earlier in
    let second_step = two mid _ first_step.0 in
    let third_step = slots_in_turn slots d e three late _ second_step.0 in
    let same = third_step.1 ∙ second_step.1 ∙ first_step.1 in
    let keyed = subst AreKeyed (sym same) (subst (λ v. AreKeyed (a.now.trees (slot_tree v))) (only_first tables.version earlier) holds.slots) in
    (four clean _ third_step.0, five clean (schema_seen third_step.0) keyed)
