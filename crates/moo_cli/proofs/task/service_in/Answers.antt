use Rattle.std.proofs.Common.{sym, subst}
use Rattle.clap.{specs.Walk.{rows_of}, specs.Matches.{found_of}}
use Rattle.moo_cli.{specs.Tasks.{IsService, IsAny}, proofs.NoneLemmas.{no_port, no_end, no_bound}}
use Rattle.moo_cli.proofs.task.service_in.Goals as goal

pub returns-in_err-port : goal.returns-in_err-port
returns-in_err-port c =
    let rows = rows_of (found_of c.args.matches.now) in
    subst (IsAny (IsService rows)) (sym c.from_residual.ensures) (no_port rows c.in_err-port.ensures)

pub returns-in_err-count : goal.returns-in_err-count
returns-in_err-count c =
    let rows = rows_of (found_of c.args.matches.now) in
    subst (IsAny (IsService rows)) (sym c.from_residual-in_err-count.ensures) (no_end rows c.in_err-count.ensures)

pub returns-in_err-ticks : goal.returns-in_err-ticks
returns-in_err-ticks c =
    let rows = rows_of (found_of c.args.matches.now) in
    subst (IsAny (IsService rows)) (sym c.from_residual-in_err-ticks.ensures) (no_bound rows c.in_err-ticks.ensures)
