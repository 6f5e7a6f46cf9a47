-- Rows as far as they are read, with one row more.
use Rattle.moo_load.proofs.Words.{◌≡◌, ◌+◌, ◌<◌, ◌≤◌, true, false, cond, ℕ, ℤ, Some, refl, sym, subst, ◌∙◌, ◌&&◌, ◌^◌, pos, negsuc, ◌≤ℤ◌, arith, IsTotalOrder, CmpEqualImpliesEq, eq_by_cmp, Ordering, FinMap, get, insert, get-insert, get-empty, same_Some, none-some, ObjNo, Head, ObjRow, PetitionId, PetitionRow, PropId, PropRow, SlotRow, VerbRow, object_exact, prop_exact, slot_exact, verb_exact, petition_exact, Held, Maps, max, no_maps, object_cmp, prop_cmp, slot_cmp, verb_cmp, petition_cmp, object_total, prop_total, slot_total, verb_total, petition_total, key-Decides, is_number, petition_fits, row_fits, is_property_name, state_fits, verb_fits, AreRead, petition_taken, property_taken, verb_taken}
use Rattle.moo_rows.specs.Maps.{with_prop, with_verb, with_petition}

-- each row of a map passes, and so does one more
more : {K X : Type 0} {cmp : K → K → Ordering} (total : IsTotalOrder cmp) (exact : CmpEqualImpliesEq cmp) (P : K → X → Type 0) (m : FinMap cmp X) (k : K) (x : X)
    → ((q : K) (y : X) → get m q ≡ Some y → P q y) → P k x → (q : K) (y : X) → get (insert m k x) q ≡ Some y → P q y
more {cmp = cmp} total exact P m k x each one q y is = elim (eq_by_cmp cmp q k) as (λ b. eq_by_cmp cmp q k ≡ b → cond b (Some x) (get m q) ≡ Some y → P q y) [
  | true ↦ λ e g. subst (λ l. P l y) (sym ((key-Decides cmp total exact q k).0 e)) (subst (P k) (same_Some x y g) one)
  | false ↦ λ e g. each q y g
] refl (sym (get-insert total m k x q) ∙ is)

module _ (m : Maps) (read : AreRead m) where
  pub object_read : (x : ObjNo) (row : ObjRow) → row_fits row ≡ true → AreRead (record m { objects = insert m.objects x row })
  object_read x row fits = record { within = record { top = read.within.top; next_prop = read.within.next_prop; next_verb = read.within.next_verb; next_petition = read.within.next_petition; objects = more object_total object_exact (λ q r. row_fits r ≡ true) m.objects x row read.within.objects fits; props = read.within.props; slots = read.within.slots; verbs = read.within.verbs; petitions = read.within.petitions }; limit = read.limit }

  pub property_read : (row : PropRow) → m.head.next_prop < 4294967295 → is_property_name row.name ≡ true → AreRead (property_taken m row)
  property_read row left fits = record { within = record { top = read.within.top; next_prop = (omega arith, omega (arith, left)); next_verb = read.within.next_verb; next_petition = read.within.next_petition; objects = read.within.objects; props = more prop_total prop_exact (λ q r. (0 < q.0) × (is_property_name r.name ≡ true)) m.props _ row read.within.props (read.within.next_prop.0, fits); slots = read.within.slots; verbs = read.within.verbs; petitions = read.within.petitions }; limit = read.limit }

  pub slot_read : (key : ObjNo × PropId) (row : SlotRow) → (is_number row.owner && state_fits row.state) ≡ true → AreRead (record m { slots = insert m.slots key row })
  slot_read key row fits = record { within = record { top = read.within.top; next_prop = read.within.next_prop; next_verb = read.within.next_verb; next_petition = read.within.next_petition; objects = read.within.objects; props = read.within.props; slots = more slot_total slot_exact (λ q r. (is_number r.owner && state_fits r.state) ≡ true) m.slots key row read.within.slots fits; verbs = read.within.verbs; petitions = read.within.petitions }; limit = read.limit }

  pub verb_read : (x : ObjNo) (row : VerbRow) → m.head.next_verb < 4294967295 → verb_fits row ≡ true → AreRead (verb_taken m x row)
  verb_read x row left fits = record { within = record { top = read.within.top; next_prop = read.within.next_prop; next_verb = (omega arith, omega (arith, left)); next_petition = read.within.next_petition; objects = read.within.objects; props = read.within.props; slots = read.within.slots; verbs = more verb_total verb_exact (λ q r. (0 < q.1.0) × (verb_fits r ≡ true)) m.verbs _ row read.within.verbs (read.within.next_verb.0, fits); petitions = read.within.petitions }; limit = read.limit }

  pub petition_read : (id : PetitionId) (row : PetitionRow) → 0 < id.0 → id.0 < 4294967295 → petition_fits row ≡ true → AreRead (petition_taken m id row)
  petition_read id row some below fits = record { within = record { top = read.within.top; next_prop = read.within.next_prop; next_verb = read.within.next_verb; next_petition = (omega arith, omega (arith, read.within.next_petition.1, below)); objects = read.within.objects; props = read.within.props; slots = read.within.slots; verbs = read.within.verbs; petitions = more petition_total petition_exact (λ q r. (0 < q.0) × (petition_fits r ≡ true)) m.petitions id row read.within.petitions (some, fits) }; limit = read.limit }

-- a row is put, and the head is set, with the next number of its kind
module _ (old put new : Held) (head : Head) (own : head ≡ old.maps.head) where
  pub property_set : (row : PropRow) → put ≡ with_prop old (record { 0 = head.next_prop }) row → new ≡ record put { maps = record (put.maps) { head = record head { next_prop = head.next_prop + 1 } } } → new.maps ≡ property_taken old.maps row
  property_set row is set = grind arith

  pub verb_set : (x : ObjNo) (row : VerbRow) → put ≡ with_verb old (x, record { 0 = head.next_verb }) row → new ≡ record put { maps = record (put.maps) { head = record head { next_verb = head.next_verb + 1 } } } → new.maps ≡ verb_taken old.maps x row
  verb_set x row is set = grind arith

pub petition_set : (old put new : Held) (head : Head) (next : ℕ) (id : PetitionId) (row : PetitionRow) → put ≡ with_petition old id row → head ≡ put.maps.head → next ≡ max head.next_petition (id.0 + 1) → new ≡ record put { maps = record (put.maps) { head = record head { next_petition = next } } } → new.maps ≡ petition_taken old.maps id row
petition_set old put new head next id row is own above set = grind arith

-- the next number of a property, a verb or a petition
abbrev IsNext : ℕ → Type 0
IsNext next = (0 < next) × (next ≤ 4294967295)

-- no rows yet
pub none_read : (head : Head) → (negsuc 0 ≤ℤ head.top) × (head.top ≤ℤ pos 2147483647) → head.seq < 2 ^ 63 → IsNext head.next_prop → IsNext head.next_verb → IsNext head.next_petition → AreRead (record no_maps { head = head })
none_read head top seq props verbs petitions =
    record {
      within = record {
        top = top;
        next_prop = props;
        next_verb = verbs;
        next_petition = petitions;
        objects = λ x row e. absurd (none-some row (sym (get-empty object_cmp x) ∙ e));
        props = λ id p e. absurd (none-some p (sym (get-empty prop_cmp id) ∙ e));
        slots = λ key s e. absurd (none-some s (sym (get-empty slot_cmp key) ∙ e));
        verbs = λ key v e. absurd (none-some v (sym (get-empty verb_cmp key) ∙ e));
        petitions = λ id row e. absurd (none-some row (sym (get-empty petition_cmp id) ∙ e));
      };
      limit = seq;
    }
