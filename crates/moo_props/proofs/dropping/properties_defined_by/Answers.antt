use Rattle.moo_props.{proofs.Words.{arith, ◌++◌, map, ap, ◌∙◌, defined_left}, proofs.Steps.{listed}, proofs.WholeWalks.{defined_keys}}
use Rattle.moo_props.proofs.dropping.properties_defined_by.Goals as goal

pub loop-id-init : goal.loop-id-init
loop-id-init g c = grind (arith, defined_keys)

pub loop-id-preserved : goal.loop-id-preserved
loop-id-preserved g c = listed (λ e. e.0) c.loop-id.found.items _ _ (c.in-Some.id, c.in-Some._row.now) _ c.in-Some.ensures.steps c.in_ok-push.ensures.items ∙ c.loop-id.invariant
