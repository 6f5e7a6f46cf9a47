-- What the rows of entries make of maps, map by map.
use Rattle.moo_load.{proofs.Words.{◌≡◌, ℕ, ◌+◌, Option, Some, None, List, [], ◌∷◌, length, refl, arith, max, filter_map, ObjNo, ObjRow, PetitionId, PetitionRow, PropId, PropRow, SlotRow, VerbId, VerbRow, Maps, Property, LastSlot, Entry, an_object, a_property, a_slot, a_verb, a_petition, entry_taken, entries_taken, carried, property_row, dumped_slot, slot_line_put}, proofs.ReadBack.Lists.{counted}, proofs.ReadBack.Puts.{puts}}

-- ---- what an entry is

abbrev pub row_in : Entry → Option (ObjNo × ObjRow)
row_in (an_object x row) = Some (x, row)
row_in e = None

abbrev pub petition_in : Entry → Option (PetitionId × PetitionRow)
petition_in (a_petition e) = Some e
petition_in e = None

abbrev pub property_in : Entry → Option Property
property_in (a_property x n) = Some (x, n)
property_in e = None

abbrev pub verb_in : Entry → Option (ObjNo × VerbRow)
verb_in (a_verb x v) = Some (x, v)
verb_in e = None

abbrev pub slot_in : (Property → PropId) → Entry → Option ((ObjNo × PropId) × SlotRow)
slot_in number (a_slot x p k) = Some ((x, number p), dumped_slot k)
slot_in number e = None

abbrev pub property_entry : ℕ → Property → PropId × PropRow
property_entry n p = (record { 0 = n }, property_row p)

abbrev pub verb_entry : ℕ → ObjNo × VerbRow → (ObjNo × VerbId) × VerbRow
verb_entry n e = ((e.0, record { 0 = n }), e.1)

-- one above the greatest number, or this one
abbrev pub above_all : ℕ → List (PetitionId × PetitionRow) → ℕ
above_all n [] = n
above_all n (e ∷ es) = above_all (max n (e.0.0 + 1)) es

-- the number after those of a list
abbrev pub after : {A : Type 0} → ℕ → List A → ℕ
after n [] = n
after n (x ∷ l) = after (n + 1) l

after_is : {A : Type 0} (n : ℕ) (l : List A) → after n l ≡ n + length l
after_is n [] = omega arith
after_is n (x ∷ l) = let h = after_is (n + 1) l in omega (arith, h)

pub after_one : {A : Type 0} (l : List A) → after 1 l ≡ length l + 1
after_one l = let h = after_is 1 l in omega (arith, h)

-- the maps with the rows of entries, but for the slots
abbrev pub rows_made : List Entry → Maps → Maps
rows_made es m = record m {
  head = record (m.head) {
    next_prop = after m.head.next_prop (filter_map property_in es);
    next_verb = after m.head.next_verb (filter_map verb_in es);
    next_petition = above_all m.head.next_petition (filter_map petition_in es);
  };
  objects = puts (filter_map row_in es) m.objects;
  props = puts (counted property_entry m.head.next_prop (filter_map property_in es)) m.props;
  verbs = puts (counted verb_entry m.head.next_verb (filter_map verb_in es)) m.verbs;
  petitions = puts (filter_map petition_in es) m.petitions;
}

pub all_taken : (es : List Entry) (m : Maps) → entries_taken es m ≡ rows_made es m
all_taken [] m = refl
all_taken (an_object x row ∷ es) m = all_taken es (entry_taken (an_object x row) m)
all_taken (e ∷ es) m = all_taken es (entry_taken e m)

pub slots_taken : (number : Property → PropId) (es : List Entry) (t : LastSlot × Maps) → (carried (slot_line_put number) es t).1 ≡ record (t.1) { slots = puts (filter_map (slot_in number) es) t.1.slots }
slots_taken number [] t = refl
slots_taken number (a_slot x p k ∷ es) t = slots_taken number es (slot_line_put number (a_slot x p k) t)
slots_taken number (e ∷ es) t = slots_taken number es t
