use Rattle.std.proofs.Common.{◌≡◌, sym, subst, ◌∙◌}
use Rattle.clap.{specs.Walk.{rows_of}, specs.Matches.{found_of}}
use Rattle.moo_cli.{specs.Tasks.{HasArguments, IsAny, command_of}, proofs.NoneLemmas.{no_service}}
use Rattle.moo_cli.proofs.task.action_in.Goals as goal

pub returns-in_err-service : goal.returns-in_err-service
returns-in_err-service c =
    let rows = rows_of (found_of c.args.matches.now) in
    subst (IsAny (λ action. (c.args.name.now ≡ command_of action) × HasArguments rows action)) (sym c.from_residual.ensures)
    (no_service rows c.args.name.now (sym c.eq-else-eq-3.ensures ∙ c.if-eq-4.true) c.in_err-service.ensures)
