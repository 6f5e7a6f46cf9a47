use Rattle.moo_tables.{proofs.Words.{[], ◌∷◌, refl, slot2_table, create_slot2_is, create_petition_is}, proofs.GrowLemmas.{grows, makes_petition_head, three_made}, proofs.StopMigrateLemmas.{first_fails, second_fails, third_fails}}
use Rattle.moo_tables.proofs.migrating.create_added_tables.Goals as goal

pub returns-clause-made : goal.returns-clause-made
returns-clause-made g c =
    three_made (g.T.Run.state c.args.tx.now) c.run-3.result c.run-2.ensures.inside c.run-3.ensures.inside
    (grows [] refl create_slot2_is refl (g.T.Run.state c.args.tx.now) (g.T.Run.state c.run.new.self) c.in_ok-run.field-0 c.in_ok-run.ensures.ran) (grows (slot2_table ∷ []) refl create_petition_is refl (g.T.Run.state c.run.new.self) (g.T.Run.state c.run-2.new.self) c.in_ok-run-2.field-0 c.in_ok-run-2.ensures.ran)
    (makes_petition_head (g.T.Run.state c.run-2.new.self) (g.T.Run.state c.run-3.new.self) c.run-3.result c.run-3.ensures.ran)

-- why one fails

pub returns-in_err-run-clause-cause : goal.returns-in_err-run-clause-cause
returns-in_err-run-clause-cause g c = first_fails (g.T.Run.state c.args.tx.now) (g.T.Run.state c.run.new.self) c.from_residual.result _ c.from_residual.ensures.1 c.in_err-run.ensures.executes

pub returns-in_err-run-2-clause-cause : goal.returns-in_err-run-2-clause-cause
returns-in_err-run-2-clause-cause g c =
    second_fails c.run.ensures.inside c.run-2.ensures.inside c.in_ok-run.field-0 c.in_ok-run.ensures.ran c.from_residual-in_err-run-2.result _ c.from_residual-in_err-run-2.ensures.1 c.in_err-run-2.ensures.executes

pub returns-clause-cause : goal.returns-clause-cause
returns-clause-cause g c =
    third_fails c.run.ensures.inside c.run-2.ensures.inside c.in_ok-run.field-0 c.in_ok-run.ensures.ran c.run-3.ensures.inside c.in_ok-run-2.field-0 c.in_ok-run-2.ensures.ran c.run-3.result c.run-3.ensures.executes
