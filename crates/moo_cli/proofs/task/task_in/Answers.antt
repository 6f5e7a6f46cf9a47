use Rattle.std.proofs.Common.{sym, ◌∙◌}
use Rattle.clap.{specs.Matches.{found_of}, specs.Walk.{rows_of}, specs.Simple.{subcommand_rows_of}}
use Rattle.moo_cli.proofs.MatchLemmas.{name_is, pair_given}
use Rattle.moo_cli.proofs.task.task_in.Goals as goal

pub returns : goal.returns
returns c =
    let whole = c.args.matches.now in
    let is = pair_given (subcommand_rows_of whole) c.in_ok-name.name.now (rows_of (found_of c.in_ok-name.matches.now)) (c.in_ok-name.ensures.name ∙ name_is whole) c.in_ok-name.ensures.rows in
    (_, is, (sym c.in_ok-file.ensures, c.in_ok-action.ensures.0, c.in_ok-action.ensures.1))
