-- The changes from some rows to others: one list, that leads to one result.
use Rattle.moo_memory.{proofs.Words.{[], refl, sym, ap, ◌∙◌, get, Maps, object_exact, prop_exact, slot_exact, verb_exact, petition_exact, object_total, prop_total, slot_total, verb_total, petition_total}, specs.Laws.{ChangesAreUnique, ChangesGiveTheRows, UndoneIsNoChange}, proofs.Changing.{changes-unique, changes-applied, no-changes}}

pub are-changes-unique : ChangesAreUnique
are-changes-unique base new a b h k = λ i. record {
  head = (h.head ∙ sym k.head) i;
  objects = changes-unique object_total object_exact (get base.objects) (get new.objects) a.objects b.objects h.objects k.objects i;
  props = changes-unique prop_total prop_exact (get base.props) (get new.props) a.props b.props h.props k.props i;
  slots = changes-unique slot_total slot_exact (get base.slots) (get new.slots) a.slots b.slots h.slots k.slots i;
  verbs = changes-unique verb_total verb_exact (get base.verbs) (get new.verbs) a.verbs b.verbs h.verbs k.verbs i;
  petitions = changes-unique petition_total petition_exact (get base.petitions) (get new.petitions) a.petitions b.petitions h.petitions k.petitions i;
}

pub changes-give_rows : ChangesGiveTheRows
changes-give_rows base new other c h k = λ i. record {
  head = (sym h.head ∙ k.head) i;
  objects = (sym (changes-applied object_total object_exact base.objects new.objects c.objects h.objects) ∙ changes-applied object_total object_exact base.objects other.objects c.objects k.objects) i;
  props = (sym (changes-applied prop_total prop_exact base.props new.props c.props h.props) ∙ changes-applied prop_total prop_exact base.props other.props c.props k.props) i;
  slots = (sym (changes-applied slot_total slot_exact base.slots new.slots c.slots h.slots) ∙ changes-applied slot_total slot_exact base.slots other.slots c.slots k.slots) i;
  verbs = (sym (changes-applied verb_total verb_exact base.verbs new.verbs c.verbs h.verbs) ∙ changes-applied verb_total verb_exact base.verbs other.verbs c.verbs k.verbs) i;
  petitions = (sym (changes-applied petition_total petition_exact base.petitions new.petitions c.petitions h.petitions) ∙ changes-applied petition_total petition_exact base.petitions other.petitions c.petitions k.petitions) i;
}

pub undone-no_change : UndoneIsNoChange
undone-no_change base new c e h = are-changes-unique base new c (record { head = new.head; objects = []; props = []; slots = []; verbs = []; petitions = [] }) h (record {
  head = refl;
  objects = no-changes (get base.objects) (get new.objects) (ap (λ (m : Maps). get m.objects) (sym e));
  props = no-changes (get base.props) (get new.props) (ap (λ (m : Maps). get m.props) (sym e));
  slots = no-changes (get base.slots) (get new.slots) (ap (λ (m : Maps). get m.slots) (sym e));
  verbs = no-changes (get base.verbs) (get new.verbs) (ap (λ (m : Maps). get m.verbs) (sym e));
  petitions = no-changes (get base.petitions) (get new.petitions) (ap (λ (m : Maps). get m.petitions) (sym e));
})
