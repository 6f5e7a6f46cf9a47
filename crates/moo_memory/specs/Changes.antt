-- What changed from some rows to others.
use Rattle.std.specs.{Prelude.{◌≡◌, ◌≢◌, T, List, [], ◌∷◌, Option, Some, None}, declared.cmp.Ordering.{Ordering}}
use Rattle.std.specs.FinMap.{FinMap, find, get, is_sorted}
use Rattle.moo_rows.specs.{declared.row.Head.{Head}, Maps.{Maps, object_cmp, prop_cmp, slot_cmp, verb_cmp, petition_cmp}}
use Rattle.moo_memory.specs.{Overlay.{changed}, declared.changes.Changes.{Changes}}

-- exactly the keys whose rows differ, each once with its new row or `None`, in ascending order
pub record IsChanges {K X : Type 0} (cmp : K → K → Ordering) (base new : K → Option X) (changes : List (K × Option X)) : Type 0 where
  pub ascending : T (is_sorted cmp changes)
  -- a key of the list has its new row there, and that isn't the base's
  pub listed : (key : K) (row : Option X) → find cmp key changes ≡ Some row → (row ≡ new key) × (row ≢ base key)
  -- every other key has the same row in both
  pub others : (key : K) → find cmp key changes ≡ None → base key ≡ new key

-- what changed from base to new: the new head, and of each map the keys whose rows differ
pub record AreChanges (base new : Maps) (changes : Changes) : Type 0 where
  pub head : changes.head ≡ new.head
  pub objects : IsChanges object_cmp (get base.objects) (get new.objects) changes.objects
  pub props : IsChanges prop_cmp (get base.props) (get new.props) changes.props
  pub slots : IsChanges slot_cmp (get base.slots) (get new.slots) changes.slots
  pub verbs : IsChanges verb_cmp (get base.verbs) (get new.verbs) changes.verbs
  pub petitions : IsChanges petition_cmp (get base.petitions) (get new.petitions) changes.petitions

-- the changes in which no row is, with this head
abbrev pub only_head : Head → Changes
only_head head = record { head = head; objects = []; props = []; slots = []; verbs = []; petitions = [] }

-- the map with the keys of a list changed, one after another
abbrev pub changed_each : {K X : Type 0} {cmp : K → K → Ordering} → FinMap cmp X → List (K × Option X) → FinMap cmp X
changed_each base [] = base
changed_each base (e ∷ es) = changed_each (changed base e.0 e.1) es
