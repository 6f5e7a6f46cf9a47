use Rattle.moo_text.{proofs.Shared.{◌≡◌, Some, None, sym, ◌∙◌, rules, call_of}, proofs.Calls.{call_taken, call_again}}
use Rattle.moo_text.proofs.surface.read_call.Goals as goal

pub returns-in-Ok-Some-clause-ok : goal.returns-in-Ok-Some-clause-ok
returns-in-Ok-Some-clause-ok c =
    let read : call_of c.args.line.now ≡ Some c.in-Ok-Some.call = search rules in
    call_taken c.args.line.now c.in-Ok-Some.call read

pub returns-in-Ok-None-clause-err : goal.returns-in-Ok-None-clause-err
returns-in-Ok-None-clause-err c malformed call spelled =
    let read : call_of c.args.line.now ≡ None = search rules in
    let same : None ≡ Some call = sym read ∙ call_again c.args.line.now call spelled in
    cc
