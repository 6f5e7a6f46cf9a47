use Rattle.moo_props.{proofs.Words.{arith, ◌++◌, map, ap, ◌∙◌, verbs_of_left}, proofs.Steps.{listed}, proofs.WholeWalks.{verb_keys}}
use Rattle.moo_props.proofs.dropping.verbs_among.Goals as goal

pub loop-key-init : goal.loop-key-init
loop-key-init g c = grind (arith, verb_keys)

pub loop-key-preserved : goal.loop-key-preserved
loop-key-preserved g c = listed (λ e. e.0) c.loop-key.found.items _ _ (c.in-Some.key, c.in-Some._row.now) _ c.in-Some.ensures.steps c.in_ok-push.ensures.items ∙ c.loop-key.invariant
