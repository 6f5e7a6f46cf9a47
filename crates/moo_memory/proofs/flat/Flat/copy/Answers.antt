use Rattle.moo_memory.proofs.Words.{rules, ap, ◌∙◌, sym, subst, refl, ⊤, get, contents, AreCovered, tag_of, Tag, named_cmp, ObjNo, PropId, Held, object_cmp, prop_cmp, slot_cmp}
use Rattle.moo_memory.specs.Forgotten.{AreKeysOf, KeepsNoOther}
use Rattle.moo_memory.proofs.flat.Flat.copy.Goals as goal
use Rattle.std.proofs.lemmas.Map.Entries.{entries_from_clone}
use Rattle.std.specs.FinMap as map
use Rattle.moo_rows.specs.declared.row.PropRow.{PropRow}
use Rattle.moo_rows.{specs.declared.row.VerbId.{VerbId}, specs.declared.row.PetitionId.{PetitionId}, specs.ObjectRow.{object_clone}, specs.SameRows.{prop_clone, slot_clone, verb_clone, petition_clone}}

-- clones of equal keys and rows leave equal maps
pub returns : goal.returns
returns c =
    (λ i. record {
      head = c.self.inside.head;
      objects = map.from_entries (entries_from_clone _ _ (λ (x y : ObjNo) h. search rules) object_clone c.self.inside.objects.entries c.in_ok-clone.field-0.entries c.in_ok-clone.ensures.cases i);
      props = map.from_entries (entries_from_clone _ _ (λ (x y : PropId) h. search rules) prop_clone c.self.inside.props.entries c.in_ok-clone-2.field-0.entries c.in_ok-clone-2.ensures.cases i);
      slots = map.from_entries (entries_from_clone _ _ (λ (x y : ObjNo × PropId) h. search rules) slot_clone c.self.inside.slots.entries c.in_ok-clone-3.field-0.entries c.in_ok-clone-3.ensures.cases i);
      verbs = map.from_entries (entries_from_clone _ _ (λ (x y : ObjNo × VerbId) h. search rules) verb_clone c.self.inside.verbs.entries c.in_ok-clone-4.field-0.entries c.in_ok-clone-4.ensures.cases i);
      petitions = map.from_entries (entries_from_clone _ _ (λ (x y : PetitionId) h. search rules) petition_clone c.self.inside.petitions.entries c.in_ok-clone-5.field-0.entries c.in_ok-clone-5.ensures.cases i);
    }) ∙ ap (λ (held : Held). held.maps) c.self.view_is

pub invariant_of-result : goal.invariant_of-result
invariant_of-result c =
    let objects = entries_from_clone _ _ (λ (x y : ObjNo) h. search rules) object_clone c.self.inside.objects.entries c.in_ok-clone.field-0.entries c.in_ok-clone.ensures.cases in
    let props = entries_from_clone _ _ (λ (x y : PropId) h. search rules) prop_clone c.self.inside.props.entries c.in_ok-clone-2.field-0.entries c.in_ok-clone-2.ensures.cases in
    let definers = entries_from_clone _ _ (λ (x y : ObjNo × PropId) h. search rules) (λ (x y : ⊤) h. refl) c.self.inside.definers.entries c.in_ok-clone-6.field-0.entries c.in_ok-clone-6.ensures.cases in
    let names = entries_from_clone _ _ (λ (x y : Tag × PropId) h. search rules) (λ (x y : ⊤) h. refl) c.self.inside.names.entries c.in_ok-clone-7.field-0.entries c.in_ok-clone-7.ensures.cases in (
      subst (λ m. AreCovered (get m) c.in_ok-copy.field-0) (sym (λ i. map.from_entries {R = object_cmp} (objects i)))
          (subst (AreCovered (get (contents object_cmp c.self.inside.objects))) (sym c.in_ok-copy.ensures) c.self.invariant.0),
      subst (λ m. AreKeysOf (λ (row : PropRow). row.definer) (get m) (contents slot_cmp c.in_ok-clone-6.field-0)) (sym (λ i. map.from_entries {R = prop_cmp} (props i)))
          (subst (AreKeysOf (λ (row : PropRow). row.definer) (get (contents prop_cmp c.self.inside.props))) (sym (λ i. map.from_entries {R = slot_cmp} (definers i))) c.self.invariant.1),
      subst (λ m. AreKeysOf tag_of (get m) (contents named_cmp c.in_ok-clone-7.field-0)) (sym (λ i. map.from_entries {R = prop_cmp} (props i)))
          (subst (AreKeysOf tag_of (get (contents prop_cmp c.self.inside.props))) (sym (λ i. map.from_entries {R = named_cmp} (names i))) c.self.invariant.2),
      subst (λ m. KeepsNoOther (get m) c.in_ok-copy.field-0) (sym (λ i. map.from_entries {R = object_cmp} (objects i)))
          (subst (KeepsNoOther (get (contents object_cmp c.self.inside.objects))) (sym c.in_ok-copy.ensures) c.self.invariant.3),
    )
