-- An argument more for a command.
use Rattle.std.{proofs.Common.{◌≡◌, false, Result, Ok, Err, IfOk, ap₂, ◌∙◌}, specs.Prelude.{◌||◌}}
use Rattle.clap.{specs.Built.{AddsArg}, specs.Simple.{App, app_of, with_rule}, specs.Walk.{Rule, rule_of}, specs.declared.builder.arg.Arg.{Arg}, specs.declared.builder.command.Command.{Command}, specs.declared.builder.command.Command.TheViews.{out-Command as fields_of}}

pub with_arg : {E : Type 0} (app : App) (rule : Rule) (r : Result Command E) (old : Command) (arg : Arg) → IfOk r (λ new. AddsArg old arg new) → app_of old ≡ app → rule_of arg ≡ rule → arg.global ≡ false
    → IfOk r (λ new. app_of new ≡ with_rule app rule)
with_arg app rule (Ok new) old arg adds is of local = adds.shape local ∙ ap₂ with_rule is of
with_arg app rule (Err e) old arg adds is of local = tt

pub stays_local : {E : Type 0} (r : Result Command E) (old : Command) (arg : Arg) → IfOk r (λ new. AddsArg old arg new) → (fields_of old).has_globals ≡ false → arg.global ≡ false
    → IfOk r (λ new. (fields_of new).has_globals ≡ false)
stays_local (Ok new) old arg adds is local = adds.globals ∙ ap₂ (λ a b. a || b) is local
stays_local (Err e) old arg adds is local = tt
