use Rattle.std.proofs.Common.{inr, refl, sym, subst, arith}
use Rattle.clap.{specs.Walk.{rows_of}, specs.Matches.{found_of}}
use Rattle.moo_cli.{specs.Tasks.{HasNumberOr, IsAny}, proofs.MatchLemmas.{no_text, some_text}, proofs.NoneLemmas.{no_number}}
use Rattle.moo_cli.proofs.task.number_or.Goals as goal

pub returns-in-None : goal.returns-in-None
returns-in-None c = inr (no_text (found_of c.args.matches.now) c.args.id.now c.get_str.result c.get_str.ensures c.in-None.is, refl)

pub returns-in_err-number-in-Some : goal.returns-in_err-number-in-Some
returns-in_err-number-in-Some c =
    let rows = rows_of (found_of c.args.matches.now) in
    let given = some_text (found_of c.args.matches.now) c.args.id.now c.get_str.result c.in-Some._text c.get_str.ensures c.in-Some.is in
    subst (IsAny (HasNumberOr rows c.args.id.now c.args.least c.args.most c.args.absent)) (sym c.from_residual.ensures)
    (no_number rows c.args.id.now c.in-Some._text.now c.args.least c.args.most c.args.absent (omega arith) given c.in_err-number-in-Some.ensures)
