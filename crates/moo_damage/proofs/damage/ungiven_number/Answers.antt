use Rattle.moo_damage.{proofs.Words.{◌≡◌, true, false, refl, subst, PastHead, is_object_past, is_prop_past, is_verb_past, is_petition_past, IsLeastBad}, proofs.Searched.{none_of_cells, object_past, prop_past, verb_past, petition_past, none_past, told}}
use Rattle.moo_damage.proofs.damage.ungiven_number.Goals as goal

pub returns-in-Some-clause-first : goal.returns-in-Some-clause-first
returns-in-Some-clause-first g c =
    let m = (g.R.Rows.held c.args.rows.now).maps in
    told m PastHead _ _ _ refl c.object_key.ensures (none_of_cells m) (object_past m _ (subst (IsLeastBad m.objects (λ k r. is_object_past m.head k ≡ false) (λ k r. is_object_past m.head k ≡ true)) c.in-Some.is c.past_object.ensures))

pub returns-in-Some-first_past-clause-first : goal.returns-in-Some-first_past-clause-first
returns-in-Some-first_past-clause-first g c =
    let m = (g.R.Rows.held c.args.rows.now).maps in
    told m PastHead _ _ _ refl c.prop_key.ensures (none_of_cells m) (prop_past m c.in_default.ensures _ (subst (IsLeastBad m.props (λ k r. is_prop_past m.head k ≡ false) (λ k r. is_prop_past m.head k ≡ true)) c.in-Some-first_past.is c.first_past.ensures))

pub returns-in-Some-first_past-2-clause-first : goal.returns-in-Some-first_past-2-clause-first
returns-in-Some-first_past-2-clause-first g c =
    let m = (g.R.Rows.held c.args.rows.now).maps in
    told m PastHead _ _ _ refl c.verb_key.ensures (none_of_cells m) (verb_past m c.in_default.ensures c.in_default-first_past.ensures _ (subst (IsLeastBad m.verbs (λ k r. is_verb_past m.head k ≡ false) (λ k r. is_verb_past m.head k ≡ true)) c.in-Some-first_past-2.is c.first_past-2.ensures))

pub returns-in-Some-first_past-3-clause-first : goal.returns-in-Some-first_past-3-clause-first
returns-in-Some-first_past-3-clause-first g c =
    let m = (g.R.Rows.held c.args.rows.now).maps in
    told m PastHead _ _ _ refl c.petition_key.ensures (none_of_cells m) (petition_past m c.in_default.ensures c.in_default-first_past.ensures c.in_default-first_past-2.ensures _ (subst (IsLeastBad m.petitions (λ k r. is_petition_past m.head k ≡ false) (λ k r. is_petition_past m.head k ≡ true)) c.in-Some-first_past-3.is c.first_past-3.ensures))

pub returns-clause-first : goal.returns-clause-first
returns-clause-first g c = none_past (g.R.Rows.held c.args.rows.now).maps c.in_default.ensures c.in_default-first_past.ensures c.in_default-first_past-2.ensures c.in_default-first_past-3.ensures

pub returns-clause-given : goal.returns-clause-given
returns-clause-given g c = record {
  objects = c.in_default.ensures;
  props = c.in_default-first_past.ensures;
  verbs = c.in_default-first_past-2.ensures;
  petitions = c.in_default-first_past-3.ensures;
}
