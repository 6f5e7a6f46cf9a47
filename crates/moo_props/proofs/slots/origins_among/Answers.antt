use Rattle.moo_props.{proofs.Words.{◌∙◌, origin_of}, proofs.Steps.{listed}}
use Rattle.moo_props.proofs.slots.origins_among.Goals as goal

pub loop-key-preserved : goal.loop-key-preserved
loop-key-preserved g c = listed (λ e. origin_of e.0.1 e.1) c.loop-key.found.items _ _ (c.in-Some.key, c.in-Some.slot.now) _ c.in-Some.ensures.steps c.in_ok-push.ensures.items ∙ c.loop-key.invariant
