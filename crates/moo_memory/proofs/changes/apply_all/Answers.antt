use Rattle.moo_memory.{proofs.Words.{◌≡◌, ap, ◌∙◌, Maps, Held, object_exact, prop_exact, slot_exact, verb_exact, petition_exact, object_total, prop_total, slot_total, verb_total, petition_total, changed_each}, proofs.Changing.{changes-applied}}
use Rattle.moo_memory.proofs.changes.apply_all.Goals as goal
use Rattle.std.proofs.lemmas.Result.{on_ok_weaker}

pub returns : goal.returns
returns g c = on_ok_weaker c.apply_each-5.result (λ (done : (g.R.Rows.held c.apply_each-5.new.rows).maps ≡ record ((g.R.Rows.held c.apply_each-4.new.rows).maps) { petitions = changed_each (g.R.Rows.held c.apply_each-4.new.rows).maps.petitions c.args.changes.petitions }) new h.
    let before = (g.R.Rows.held c.args.rows.now).maps in
    let changes = c.args.changes in
    let head = ap (λ (held : Held). held.maps) c.set_head.ensures in
    let objects = c.in_ok-apply_each.ensures ∙ ap (λ (t : Maps). record t { objects = changed_each t.objects changes.objects }) head in
    let props = c.in_ok-apply_each-2.ensures ∙ ap (λ (t : Maps). record t { props = changed_each t.props changes.props }) objects in
    let slots = c.in_ok-apply_each-3.ensures ∙ ap (λ (t : Maps). record t { slots = changed_each t.slots changes.slots }) props in
    let verbs = c.in_ok-apply_each-4.ensures ∙ ap (λ (t : Maps). record t { verbs = changed_each t.verbs changes.verbs }) slots in
    let petitions = done ∙ ap (λ (t : Maps). record t { petitions = changed_each t.petitions changes.petitions }) verbs in
    petitions ∙ (λ i. record {
      head = h.head i;
      objects = changes-applied object_total object_exact before.objects new.objects changes.objects h.objects i;
      props = changes-applied prop_total prop_exact before.props new.props changes.props h.props i;
      slots = changes-applied slot_total slot_exact before.slots new.slots changes.slots h.slots i;
      verbs = changes-applied verb_total verb_exact before.verbs new.verbs changes.verbs h.verbs i;
      petitions = changes-applied petition_total petition_exact before.petitions new.petitions changes.petitions h.petitions i;
    })) c.apply_each-5.ensures
