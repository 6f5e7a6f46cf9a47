use Rattle.moo_store.proofs.Words.{Some, None, List, Option, ap, sym, subst, FinMap, empty, get, get-empty, Head, object_cmp, prop_cmp, slot_cmp, verb_cmp, petition_cmp, PrintEach, PrintsObject, PrintsProp, PrintsSlot, PrintsVerb, PrintsPetition}
use Rattle.moo_store.proofs.printing.print_all.Goals as goal
use Rattle.std.specs.declared.cmp.Ordering.{Ordering}

-- no row is there of an empty map
from_empty : {K C X : Type 0} (cmp : K → K → Ordering) (prints : Option X → C → X → Type 0) (cells : List (K × Option C)) (changes : List (K × Option X)) → PrintEach (λ key. prints None) cells changes → PrintEach (λ key. prints (get (let none : FinMap cmp X = empty in none) key)) cells changes
from_empty {K = K} {X = X} cmp prints cells changes p = subst (λ (held : K → Option X). PrintEach (λ key. prints (held key)) cells changes) (λ i key. sym (get-empty cmp key) i) p

pub returns : goal.returns
returns c = record {
  head = c.head-head.ensures;
  next_petition = ap (λ (h : Head). Some h.next_petition) c.head-head.ensures;
  objects = from_empty object_cmp PrintsObject _ _ c.in_ok-objects.ensures;
  props = from_empty prop_cmp PrintsProp _ _ c.in_ok-props.ensures;
  slots = from_empty slot_cmp PrintsSlot _ _ c.in_ok-slots.ensures;
  verbs = from_empty verb_cmp PrintsVerb _ _ c.in_ok-verbs.ensures;
  petitions = from_empty petition_cmp PrintsPetition _ _ c.in_ok-petitions.ensures;
}
