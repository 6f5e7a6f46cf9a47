use Rattle.std.{proofs.Common.{ap₂, ◌∙◌}, specs.Prelude.{◌||◌}}
use Rattle.clap.specs.Simple.{with_rule}
use Rattle.moo_cli.proofs.Adding.{with_arg, stays_local}
use Rattle.moo_cli.proofs.commands.serve_command.Goals as goal

pub returns-clause-shape : goal.returns-clause-shape
returns-clause-shape c =
    let ported = c.in_ok-arg.ensures.shape c.port_arg.ensures.local ∙ ap₂ with_rule c.in_ok-file_command.ensures.shape c.port_arg.ensures.rule in
    let counted = c.in_ok-arg-2.ensures.shape c.count_arg.ensures.local ∙ ap₂ with_rule ported c.count_arg.ensures.rule in
    with_arg _ _ c.arg-3.result _ _ c.arg-3.ensures counted c.ticks_arg.ensures.rule c.ticks_arg.ensures.local

pub returns-clause-local : goal.returns-clause-local
returns-clause-local c =
    let ported = c.in_ok-arg.ensures.globals ∙ ap₂ (λ a b. a || b) c.in_ok-file_command.ensures.local c.port_arg.ensures.local in
    let counted = c.in_ok-arg-2.ensures.globals ∙ ap₂ (λ a b. a || b) ported c.count_arg.ensures.local in
    stays_local c.arg-3.result _ _ c.arg-3.ensures counted c.ticks_arg.ensures.local
