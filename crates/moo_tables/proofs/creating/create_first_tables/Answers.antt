use Rattle.moo_tables.{proofs.Words.{refl, create_head_is, create_object_is, create_prop_is, create_slot_is, clean_before, on_ok}, proofs.CreateLemmas.{makes, makes_verb}, proofs.FirstLemmas.{head_fails, begins_head, goes_on, stops_early, stops_late, object_making, prop_making, slot_making, verb_making}}
use Rattle.moo_tables.proofs.creating.create_first_tables.Goals as goal

pub returns-clause-made : goal.returns-clause-made
returns-clause-made g c =
    on_ok c.run-5.result (makes_verb _ _ c.run-5.result c.run-5.ensures.ran) (λ last clean none.
    let clean4 = clean_before _ _ _ c.run-5.ensures.inside.survives clean in
    let clean3 = clean_before _ _ _ c.run-4.ensures.inside.survives clean4 in
    let clean2 = clean_before _ _ _ c.run-3.ensures.inside.survives clean3 in
    let head = makes create_head_is refl _ _ c.in_ok-run.field-0 c.in_ok-run.ensures.ran (clean_before _ _ _ c.run-2.ensures.inside.survives clean2) none in
    let prop = makes create_prop_is refl _ _ c.in_ok-run-3.field-0 c.in_ok-run-3.ensures.ran clean3 (makes create_object_is refl _ _ c.in_ok-run-2.field-0 c.in_ok-run-2.ensures.ran clean2 head) in
    last clean (makes create_slot_is refl _ _ c.in_ok-run-4.field-0 c.in_ok-run-4.ensures.ran clean4 prop))

-- why one fails

pub returns-in_err-run-clause-cause : goal.returns-in_err-run-clause-cause
returns-in_err-run-clause-cause g c = head_fails (g.T.Run.state c.args.tx.now) (g.T.Run.state c.run.new.self) c.from_residual.result _ c.from_residual.ensures.1 c.in_err-run.ensures.executes

pub returns-in_err-run-2-clause-cause : goal.returns-in_err-run-2-clause-cause
returns-in_err-run-2-clause-cause g c =
    let one = begins_head c.in_ok-run.field-0 c.run.ensures.inside c.in_ok-run.ensures.ran in
    stops_early object_making one c.run-2.ensures.inside c.from_residual-in_err-run-2.result _ c.from_residual-in_err-run-2.ensures.1 c.in_err-run-2.ensures.executes

pub returns-in_err-run-3-clause-cause : goal.returns-in_err-run-3-clause-cause
returns-in_err-run-3-clause-cause g c =
    let one = begins_head c.in_ok-run.field-0 c.run.ensures.inside c.in_ok-run.ensures.ran in
    let two = goes_on object_making one c.run-2.ensures.inside c.in_ok-run-2.field-0 c.in_ok-run-2.ensures.ran in
    stops_early prop_making two c.run-3.ensures.inside c.from_residual-in_err-run-3.result _ c.from_residual-in_err-run-3.ensures.1 c.in_err-run-3.ensures.executes

pub returns-in_err-run-4-clause-cause : goal.returns-in_err-run-4-clause-cause
returns-in_err-run-4-clause-cause g c =
    let one = begins_head c.in_ok-run.field-0 c.run.ensures.inside c.in_ok-run.ensures.ran in
    let two = goes_on object_making one c.run-2.ensures.inside c.in_ok-run-2.field-0 c.in_ok-run-2.ensures.ran in
    let three = goes_on prop_making two c.run-3.ensures.inside c.in_ok-run-3.field-0 c.in_ok-run-3.ensures.ran in
    stops_early slot_making three c.run-4.ensures.inside c.from_residual-in_err-run-4.result _ c.from_residual-in_err-run-4.ensures.1 c.in_err-run-4.ensures.executes

pub returns-clause-cause : goal.returns-clause-cause
returns-clause-cause g c =
    let one = begins_head c.in_ok-run.field-0 c.run.ensures.inside c.in_ok-run.ensures.ran in
    let two = goes_on object_making one c.run-2.ensures.inside c.in_ok-run-2.field-0 c.in_ok-run-2.ensures.ran in
    let three = goes_on prop_making two c.run-3.ensures.inside c.in_ok-run-3.field-0 c.in_ok-run-3.ensures.ran in
    let four = goes_on slot_making three c.run-4.ensures.inside c.in_ok-run-4.field-0 c.in_ok-run-4.ensures.ran in
    stops_late verb_making four c.run-5.ensures.inside c.run-5.result c.run-5.ensures.executes
