use Rattle.moo_memory.{proofs.Words.{sym, refl, subst, get, contents, object_cmp, prop_cmp, slot_cmp, verb_cmp, petition_cmp, object_total, prop_total, slot_total, verb_total, petition_total, IsChanges}, proofs.Overlays.{get-overlaid}}
use Rattle.moo_memory.proofs.draft.Draft.into_changes.Goals as goal

pub returns : goal.returns
returns g c =
    let d = c.self.inside in
    let below = (g.R.Rows.held d.base.now).maps in
    rw (← c.self.view_is) (record {
      head = refl;
      objects = subst (λ new. IsChanges object_cmp (get below.objects) new c.in_ok-changed_rows.field-0) (λ i q. sym (get-overlaid object_total below.objects (contents object_cmp d.objects) q) i) c.in_ok-changed_rows.ensures;
      props = subst (λ new. IsChanges prop_cmp (get below.props) new c.in_ok-changed_rows-2.field-0) (λ i q. sym (get-overlaid prop_total below.props (contents prop_cmp d.props) q) i) c.in_ok-changed_rows-2.ensures;
      slots = subst (λ new. IsChanges slot_cmp (get below.slots) new c.in_ok-changed_rows-3.field-0) (λ i q. sym (get-overlaid slot_total below.slots (contents slot_cmp d.slots) q) i) c.in_ok-changed_rows-3.ensures;
      verbs = subst (λ new. IsChanges verb_cmp (get below.verbs) new c.in_ok-changed_rows-4.field-0) (λ i q. sym (get-overlaid verb_total below.verbs (contents verb_cmp d.verbs) q) i) c.in_ok-changed_rows-4.ensures;
      petitions = subst (λ new. IsChanges petition_cmp (get below.petitions) new c.in_ok-changed_rows-5.field-0) (λ i q. sym (get-overlaid petition_total below.petitions (contents petition_cmp d.petitions) q) i) c.in_ok-changed_rows-5.ensures;
    })
