use Rattle.moo_props.{proofs.Words.{◌∙◌}, proofs.Steps.{listed}}
use Rattle.moo_props.proofs.dropping.property_ids_with_slot.Goals as goal

pub loop-key-preserved : goal.loop-key-preserved
loop-key-preserved g c = listed (λ e. e.0.1) c.loop-key.found.items _ _ (c.in-Some.key, c.in-Some._slot.now) _ c.in-Some.ensures.steps c.in_ok-push.ensures.items ∙ c.loop-key.invariant
