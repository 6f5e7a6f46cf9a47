use Rattle.std.{proofs.Common.{◌≡◌, None, rules}, proofs.lemmas.Result.{on_ok_weaker}}
use Rattle.moo_world.{specs.Names.{petition_call}}
use Rattle.moo_batch.{proofs.InTurn.{stepped-keeps, stepped-reaches}, proofs.AtCheck.{comes-stays}}
use Rattle.moo_batch.proofs.stepping.step.Goals as goal

pub returns-in_default-clause-check : goal.returns-in_default-clause-check
returns-in_default-clause-check g c = comes-stays (g.R.Rows.held c.args.rows.now) (g.R.Rows.held c.step.new.rows) _ c.step.result c.step.ensures.comes

pub returns-in_default-clause-reaches : goal.returns-in_default-clause-reaches
returns-in_default-clause-reaches g c =
    let on_world : petition_call c.args.call.now.name ≡ None = search rules in
    stepped-reaches c.args.call.now c.args.programmer (g.R.Rows.held c.args.rows.now) (g.R.Rows.held c.step.new.rows) c.step.result on_world c.step.ensures.comes c.step.ensures.kept

pub returns-in_default-clause-kept : goal.returns-in_default-clause-kept
returns-in_default-clause-kept g c =
    let on_world : petition_call c.args.call.now.name ≡ None = search rules in
    on_ok_weaker c.step.result (stepped-keeps c.args.call.now c.args.programmer (g.R.Rows.held c.args.rows.now) (g.R.Rows.held c.step.new.rows) on_world) c.step.ensures.kept
