-- Rows that stay as they are, and columns that stay, keep their cells, byte for byte, whatever spelling of a value the cells hold.
use Rattle.std.specs.{Prelude.{◌≡◌, ℤ, pos, Option, Some, ⊤}, FinMap.{get}}
use Rattle.sqlite.specs.Order.{Row}
use Rattle.moo_value.specs.declared.value.ObjNo.{ObjNo}
use Rattle.moo_rows.specs.{declared.row.PropId.{PropId}, declared.row.VerbId.{VerbId}, declared.row.PetitionId.{PetitionId}, Maps.{Maps}}
use Rattle.moo_tables_rows.specs.{Tables.{Tables}, Head.{HeadColumns}, Object.{ObjectColumns}, Prop.{PropColumns}, Slot.{SlotColumns}}
use Rattle.moo_tables_rows.specs.{Verb.{VerbColumns}, Petition.{PetitionColumns}}
use Rattle.moo_cells.specs.Shows.{ShowsRows}

-- this holds from a row to a row, each with its cells; if one of them isn't there, nothing is said
abbrev pub IfBoth : {X : Type 0} → (X → X → Row → Row → Type 0) → Option X → Option X → Option Row → Option Row → Type 0
IfBoth keeps (Some a) (Some b) (Some old) (Some new) = keeps a b old new
IfBoth keeps a b old new = ⊤

-- From rows that the tables show to rows that the tables then show: if a row is the same in both, so are its cells. In a row that is in
-- both, each column that is the same keeps its cell; so it is in the head.
pub record KeepsCells (rows next : Maps) (old new : Tables) : Type 0 where
  pub version : new.version ≡ old.version
  pub shown : ShowsRows old rows
  pub shows : ShowsRows new next
  pub objects : (n : ObjNo) → get rows.objects n ≡ get next.objects n → new.object n.0 ≡ old.object n.0
  pub props : (id : PropId) → get rows.props id ≡ get next.props id → new.prop (pos id.0) ≡ old.prop (pos id.0)
  pub slots : (key : ObjNo × PropId) → get rows.slots key ≡ get next.slots key →
      new.slot (key.0.0, pos key.1.0) ≡ old.slot (key.0.0, pos key.1.0)
  pub verbs : (key : ObjNo × VerbId) → get rows.verbs key ≡ get next.verbs key →
      new.verb (key.0.0, pos key.1.0) ≡ old.verb (key.0.0, pos key.1.0)
  pub petitions : (id : PetitionId) → get rows.petitions id ≡ get next.petitions id → new.petition (pos id.0) ≡ old.petition (pos id.0)
  pub counter : rows.head.next_petition ≡ next.head.next_petition → (n : ℤ) → new.petition_head n ≡ old.petition_head n
  pub head_columns : IfBoth HeadColumns (Some rows.head) (Some next.head) (old.head (pos 1)) (new.head (pos 1))
  pub object_columns : (n : ObjNo) → IfBoth ObjectColumns (get rows.objects n) (get next.objects n) (old.object n.0) (new.object n.0)
  pub prop_columns : (id : PropId) → IfBoth PropColumns (get rows.props id) (get next.props id) (old.prop (pos id.0)) (new.prop (pos id.0))
  pub slot_columns : (key : ObjNo × PropId) →
      IfBoth SlotColumns (get rows.slots key) (get next.slots key) (old.slot (key.0.0, pos key.1.0)) (new.slot (key.0.0, pos key.1.0))
  pub verb_columns : (key : ObjNo × VerbId) →
      IfBoth VerbColumns (get rows.verbs key) (get next.verbs key) (old.verb (key.0.0, pos key.1.0)) (new.verb (key.0.0, pos key.1.0))
  pub petition_columns : (id : PetitionId) →
      IfBoth PetitionColumns (get rows.petitions id) (get next.petitions id) (old.petition (pos id.0)) (new.petition (pos id.0))
