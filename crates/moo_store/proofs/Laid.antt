-- A row that is printed over the cells of another shows itself, and keeps the columns that stay.
use Rattle.moo_store.proofs.Words.{arith, ◌≡◌, ℕ, pos, List, [], ◌∷◌, Option, Some, None, Vec, refl, rules, sym, ap, ◌∙◌, subst, subst₂, Row, column, ObjNo, ObjRow, PropId, SlotRow, PetitionRow, SlotCells, present, object_cells, prop_cells, slot_cells, verb_cells, petition_cells, ShowsAccept, ShowsSlotState, ShowsObject, ShowsProp, ShowsSlot, ShowsVerb, ShowsPetition, ShowsOrNone, IfBoth, ObjectColumns, PropColumns, SlotColumns, VerbColumns, PetitionColumns, PrintsOver, PrintsObject, PrintsProp, PrintsSlot, PrintsVerb, PrintsPetition, accept_text, calls_text, state_text}
use Rattle.std.{specs.Option.{option_map}, specs.declared.alloc.Global.{Global}}
use Rattle.sqlite.{specs.declared.types.Value.{Value as Cell}, specs.declared.types.Value.TheVariants.{Int as Number, Text}}
use Rattle.moo_value.{specs.declared.value.Value.TheVariants.{List as a_list}, specs.Literal.{Spells}}
use Rattle.moo_rows.{specs.declared.row.PropRow.{PropRow}, specs.declared.row.VerbId.{VerbId}, specs.declared.row.VerbRow.{VerbRow}, specs.declared.row.PetitionId.{PetitionId}, specs.Bits.{bits_number, verb_bits_of, verb_letters_of}}
use Rattle.moo_world.specs.Prepositions.{prep_text, object_spec_text}
use Rattle.moo_tables_rows.{specs.declared.object.ObjectCells.{ObjectCells}, specs.declared.prop.PropCells.{PropCells}, specs.declared.verb.VerbCells.{VerbCells}, specs.declared.petition.PetitionCells.{PetitionCells}, specs.Columns.{cells_over}, specs.Object.{object_row}, specs.Slot.{slot_row}, specs.Verb.{verb_row}, specs.Petition.{petition_row}}

-- ---- a table with one column of which a value has several spellings

module _ {X V : Type 0} (shape : X → Cell → Row) (place : ℕ) (part : X → V) (shows : List ℕ → V → Type 0) (text_of : V → List ℕ) (keeps : X → X → Row → Row → Type 0) (there : (x : X) (v : Cell) → column (shape x v) place ≡ v)
    (columns : (a b : X) (v w : Cell) → (part a ≡ part b → w ≡ v) → keeps a b (shape a v) (shape b w)) where
  abbrev Showing : Row → X → Type 0
  Showing cells x = (text : List ℕ) × shows text (part x) × (cells ≡ shape x (Text text))

  module _ (made : Cell → Row) (row : X) (fits : (v : Cell) → made v ≡ shape row v) where
    moved : (b : X) (r : Row) (w : Cell) (shown : Showing r b) → (part b ≡ part row → w ≡ Text shown.0) → keeps b row r (made w)
    moved b r w shown stay = subst₂ (λ x y. keeps b row x y) (sym shown.2) (sym (fits w)) (columns b row (Text shown.0) w stay)

    pub lays_over : (base : Option X) (old : Option Row) (text : Option (Vec ℕ Global)) → PrintsOver shows text_of (option_map part base) (part row) text → ShowsOrNone Showing old base
        → ShowsOrNone Showing (cells_over made place text old) (Some row) × IfBoth keeps base (Some row) old (cells_over made place text old)
    lays_over None None (Some text) p shown = ((text.items, p.0, fits (Text text.items)), tt)
    lays_over None None None p shown = absurd (let e : None ≡ Some (part row) = p in cc)
    lays_over (Some b) (Some r) (Some text) p shown = ((text.items, p.0, fits (Text text.items)), moved b r (Text text.items) shown (λ e. absurd (p.2 (ap Some e))))
    lays_over (Some b) (Some r) None p shown =
        let same : part b ≡ part row = (let e : Some (part b) ≡ Some (part row) = p in cc) in
        let stays : column r place ≡ Text shown.0 = ap (λ cells. column cells place) shown.2 ∙ there b (Text shown.0) in
        ((shown.0, subst (shows shown.0) same shown.1, fits (column r place) ∙ ap (shape row) stays), moved b r (column r place) shown (λ e. stays))
    lays_over base old text p shown = absurd shown

-- ---- objects

pub lays_object : (base : Option ObjRow) (n : ObjNo) (c : ObjectCells) (row : ObjRow) (old : Option Row) → PrintsObject base c row → ShowsOrNone (ShowsObject present n) old base → ShowsOrNone (ShowsObject present n) (object_cells n c old) (Some row) × IfBoth ObjectColumns base (Some row) old (object_cells n c old)
lays_object base n c row old p shown = lays_over (object_row n) 11 (λ r. r.accept) ShowsAccept accept_text ObjectColumns (λ x v. refl) (λ a b v w stay. search rules) (object_row n c.row) row (λ v. ap (λ r. object_row n r v) p.row_is) base old c.accept p.accept shown

-- ---- properties

abbrev shown_prop : PropId → PropRow → Row
shown_prop id row = Number (pos id.0) ∷ Number row.definer.0 ∷ Text row.name ∷ []

pub lays_prop : (base : Option PropRow) (id : PropId) (c : PropCells) (row : PropRow) (old : Option Row) → PrintsProp base c row → ShowsOrNone (ShowsProp present id) old base → ShowsOrNone (ShowsProp present id) (prop_cells id c old) (Some row) × IfBoth PropColumns base (Some row) old (prop_cells id c old)
lays_prop base id c row old p shown = go base old shown
  where
    is : Number (pos id.0) ∷ Number c.definer.0 ∷ Text c.name.items ∷ [] ≡ shown_prop id row
    is = ap (λ (o : ObjNo). Number (pos id.0) ∷ Number o.0 ∷ Text c.name.items ∷ []) p.definer ∙ ap (λ t. Number (pos id.0) ∷ Number row.definer.0 ∷ Text t ∷ []) p.name

    go : (base : Option PropRow) (old : Option Row) → ShowsOrNone (ShowsProp present id) old base → ShowsOrNone (ShowsProp present id) (prop_cells id c old) (Some row) × IfBoth PropColumns base (Some row) old (prop_cells id c old)
    go None old shown = (is, tt)
    go (Some b) None shown = absurd shown
    go (Some b) (Some r) shown = (is, subst₂ (λ x y. PropColumns b row x y) (sym shown) (sym is) (search rules))

-- ---- slots

abbrev shown_slot : ObjNo × PropId → SlotRow → Cell → Row
shown_slot key row value = Number key.0.0 ∷ Number (pos key.1.0) ∷ Number row.owner.0 ∷ Number (bits_number row.bits) ∷ value ∷ []

abbrev SlotShowing : ObjNo × PropId → Row → SlotRow → Type 0
SlotShowing key cells x = (text : List ℕ) × ShowsSlotState text x.state × (cells ≡ shown_slot key x (Text text))

slot_to : (key : ObjNo × PropId) (cells : Row) (x : SlotRow) → ShowsSlot present key cells x → SlotShowing key cells x
slot_to key cells x it = (it.1, it.3, it.4 ∙ ap (λ b. Number key.0.0 ∷ Number (pos key.1.0) ∷ Number x.owner.0 ∷ b ∷ Text it.1 ∷ []) it.2)

slot_from : (key : ObjNo × PropId) (cells : Row) (x : SlotRow) → SlotShowing key cells x → ShowsSlot present key cells x
slot_from key cells x it = (Number (bits_number x.bits), it.0, refl, it.1, it.2)

shown_as : {X : Type 0} (P Q : Row → X → Type 0) → ((r : Row) (x : X) → P r x → Q r x) → (old : Option Row) (base : Option X) → ShowsOrNone P old base → ShowsOrNone Q old base
shown_as P Q then old base shown = grind arith

pub lays_slot : (base : Option SlotRow) (key : ObjNo × PropId) (c : SlotCells) (row : SlotRow) (old : Option Row) → PrintsSlot base c row → ShowsOrNone (ShowsSlot present key) old base → ShowsOrNone (ShowsSlot present key) (slot_cells key c old) (Some row) × IfBoth SlotColumns base (Some row) old (slot_cells key c old)
lays_slot base key c row old p shown =
    let fits : (v : Cell) → slot_row key c v ≡ shown_slot key row v = λ v. ap (λ (o : ObjNo). Number key.0.0 ∷ Number (pos key.1.0) ∷ Number o.0 ∷ Number c.bits ∷ v ∷ []) p.owner ∙ ap (λ bits. Number key.0.0 ∷ Number (pos key.1.0) ∷ Number row.owner.0 ∷ Number bits ∷ v ∷ []) p.bits in
    let it = lays_over (shown_slot key) 4 (λ r. r.state) ShowsSlotState state_text SlotColumns (λ x v. refl) (λ a b v w stay. search rules) (slot_row key c) row fits base old c.value p.value (shown_as (ShowsSlot present key) (SlotShowing key) (slot_to key) old base shown) in
    (shown_as (SlotShowing key) (ShowsSlot present key) (slot_from key) (slot_cells key c old) (Some row) it.0, it.1)

-- ---- verbs

abbrev shown_verb : ObjNo × VerbId → VerbRow → Cell → Row
shown_verb key row bits = Number key.0.0 ∷ Number (pos key.1.0) ∷ Text row.names ∷ Number row.owner.0 ∷ bits ∷ Text (object_spec_text row.args.dobj) ∷ Text (prep_text row.args.prep) ∷ Text (object_spec_text row.args.iobj) ∷ []

pub lays_verb : (base : Option VerbRow) (key : ObjNo × VerbId) (c : VerbCells) (row : VerbRow) (old : Option Row) → PrintsVerb base c row → ShowsOrNone (ShowsVerb present key) old base → ShowsOrNone (ShowsVerb present key) (verb_cells key c old) (Some row) × IfBoth VerbColumns base (Some row) old (verb_cells key c old)
lays_verb base key c row old p shown =
    let fits : (v : Cell) → verb_row key c v ≡ shown_verb key row v = λ v. rw (p.names, p.owner, p.dobj, p.prep, p.iobj) refl in
    lays_over (shown_verb key) 4 (λ r. r.bits) (λ text bits. verb_bits_of text ≡ Some bits) verb_letters_of VerbColumns (λ x v. refl) (λ a b v w stay. search rules) (verb_row key c) row fits base old c.bits p.bits shown

-- ---- petitions

abbrev shown_petition : PetitionId → PetitionRow → Cell → Row
shown_petition id row calls = Number (pos id.0) ∷ Number row.who.0 ∷ calls ∷ []

pub lays_petition : (base : Option PetitionRow) (id : PetitionId) (c : PetitionCells) (row : PetitionRow) (old : Option Row) → PrintsPetition base c row → ShowsOrNone (ShowsPetition present id) old base → ShowsOrNone (ShowsPetition present id) (petition_cells id c old) (Some row) × IfBoth PetitionColumns base (Some row) old (petition_cells id c old)
lays_petition base id c row old p shown =
    lays_over (shown_petition id) 2 (λ r. r.calls) (λ text calls. Spells (a_list calls) text) calls_text PetitionColumns (λ x v. refl) (λ a b v w stay. search rules) (petition_row id c) row (λ v. ap (λ (o : ObjNo). Number (pos id.0) ∷ Number o.0 ∷ v ∷ []) p.who) base old c.calls p.calls shown
