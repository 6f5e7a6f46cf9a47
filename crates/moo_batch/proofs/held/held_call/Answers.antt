use Rattle.std.proofs.Common.{rules, ◌≡◌, None, sym, ap, ◌∙◌}
use Rattle.moo_value.specs.Value.{spread}
use Rattle.moo_world.{specs.Names.{call_name_of}, specs.Requests.{held_call}}
use Rattle.moo_batch.proofs.HeldCalls.{on_world, call_in-some, call_in-none}
use Rattle.moo_batch.proofs.held.held_call.Goals as goal

pub returns-clause-some : goal.returns-clause-some
returns-clause-some c =
    ap held_call c.in-List.is
    ∙ call_in-some (spread c.in-List.values) c.in_ok-name.args.now c.in_ok-name.name.now c.in_ok-name-2.name (sym c.items.ensures.plain ∙ c.in_ok-name.ensures.some)
    (c.in_ok-name-2.ensures ∙ ap (λ b. on_world (call_name_of b)) c.bytes.ensures.value)

pub returns-in_err-name-2-clause-none : goal.returns-in_err-name-2-clause-none
returns-in_err-name-2-clause-none c =
    let none : held_call c.args.held.now ≡ None =
    ap held_call c.in-List.is
    ∙ call_in-none (spread c.in-List.values) c.in_ok-name.args.now c.in_ok-name.name.now (sym c.items.ensures.plain ∙ c.in_ok-name.ensures.some)
    (c.in_err-name-2.ensures ∙ ap (λ b. on_world (call_name_of b)) c.bytes.ensures.value)
    in search rules
