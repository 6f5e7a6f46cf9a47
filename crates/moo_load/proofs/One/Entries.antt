-- The lines of a dump, each with what it tells.
use Rattle.moo_load.proofs.Words.{arith, ◌≡◌, ℕ, List, [], ◌∷◌, ◌++◌, map, Option, Some, None, refl, sym, ap, ◌∙◌, append_assoc, append-nil, codes, flat_map, entries, flat_map-append, ObjNo, State, objects_of, Property, folded, World, WorldObject, Slot, slot_of, chain, defined_by_any, Entry, an_object, a_property, a_slot, a_verb, a_petition, entry_text, heading, dump, object_line, property_line, slot_line, owed_line, verb_line, petition_line, record_lines, object_lines}
use Rattle.moo_dump.proofs.FlatMaps.{flat_map-map, flat_map-flat_map}

abbrev pub owed_entry : World → ObjNo → Property → List Entry
owed_entry w x p = elim (slot_of w x (folded p.1)) [ None ↦ [] | Some s ↦ a_slot x p s ∷ [] ]

-- what follows the line of an object
abbrev pub beside_row : World → ObjNo → WorldObject → List Entry
beside_row w x r = map (a_property x) r.defines ++ (flat_map (owed_entry w x) (defined_by_any w (chain w x)) ++ map (a_verb x) r.verbs)

abbrev pub record_entries : World → ObjNo → WorldObject → List Entry
record_entries w x r = an_object x r.row ∷ beside_row w x r

abbrev pub object_entries : World → ObjNo → List Entry
object_entries w x = elim (w.object x) [ None ↦ [] | Some r ↦ record_entries w x r ]

abbrev pub entries_of : State → List Entry
entries_of s = flat_map (object_entries s.world) (objects_of s.world) ++ map a_petition (entries s.petitions)

owed_text : (w : World) (x : ObjNo) (p : Property) → flat_map entry_text (owed_entry w x p) ≡ owed_line w x p
owed_text w x p = elim (slot_of w x (folded p.1)) as (λ (o : Option Slot). flat_map entry_text (elim o [ None ↦ [] | Some s ↦ a_slot x p s ∷ [] ]) ≡ elim o [ None ↦ [] | Some s ↦ slot_line x p s ]) [ None ↦ refl | Some s ↦ append-nil (slot_line x p s) ]

beside_text : (w : World) (x : ObjNo) (r : WorldObject) → flat_map entry_text (beside_row w x r) ≡ flat_map (property_line x) r.defines ++ (flat_map (owed_line w x) (defined_by_any w (chain w x)) ++ flat_map (verb_line x) r.verbs)
beside_text w x r = grind (arith, flat_map-flat_map, owed_text, flat_map-append, flat_map-map)

object_text : (w : World) (x : ObjNo) → flat_map entry_text (object_entries w x) ≡ object_lines w x
object_text w x = elim (w.object x) as (λ (o : Option WorldObject). flat_map entry_text (elim o [ None ↦ [] | Some r ↦ record_entries w x r ]) ≡ elim o [ None ↦ [] | Some r ↦ record_lines w x r ]) [ None ↦ refl | Some r ↦ ap (λ (t : List ℕ). object_line x r.row ++ t) (beside_text w x r) ]

-- a dump is its heading, the lines of its entries and the end
pub dump_is : (s : State) → dump s ≡ heading s ++ (flat_map entry_text (entries_of s) ++ codes "end\n")
unfolding dump
dump_is s =
    let os = objects_of s.world in
    let ps = entries s.petitions in
    let objects : flat_map entry_text (flat_map (object_entries s.world) os) ≡ flat_map (object_lines s.world) os = flat_map-flat_map entry_text (object_entries s.world) os ∙ ap (λ (f : ObjNo → List ℕ). flat_map f os) (λ i x. object_text s.world x i) in
    let all : flat_map entry_text (entries_of s) ≡ flat_map (object_lines s.world) os ++ flat_map petition_line ps =
    flat_map-append entry_text (flat_map (object_entries s.world) os) (map a_petition ps)
    ∙ ap (λ (t : List ℕ). t ++ flat_map entry_text (map a_petition ps)) objects
    ∙ ap (λ (t : List ℕ). flat_map (object_lines s.world) os ++ t) (flat_map-map entry_text a_petition ps) in
    ap (λ (t : List ℕ). heading s ++ t) (sym (ap (λ (t : List ℕ). t ++ codes "end\n") all ∙ append_assoc (flat_map (object_lines s.world) os) (flat_map petition_line ps) (codes "end\n")))
