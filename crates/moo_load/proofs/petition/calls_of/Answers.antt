use Rattle.moo_load.{proofs.Words.{◌≡◌, true, sym, ◌∙◌, subst, rules, ◌&&◌, list_all, a_list, Fits, spread, Values, all_within_limits, is_named, are_few, are_shallow}, proofs.Held.{calls_held}}
use Rattle.moo_load.proofs.petition.calls_of.Goals as goal

pub returns-in_ok-calls-in-List-clause-fits : goal.returns-in_ok-calls-in-List-clause-fits
returns-in_ok-calls-in-List-clause-fits c =
    let fits : Fits c.args.value.now = search rules in
    let own : Fits (a_list c.in-List.calls) = subst Fits c.in-List.is fits in
    let held = calls_held c.in-List.calls own (sym c.may_be_held.ensures ∙ c.if-may_be_held.true) in
    let copy : c.in_ok-calls-in-List.calls ≡ c.in-List.calls = search rules in
    subst (λ (v : Values). (list_all is_named (spread v) && (are_few v && (are_shallow v && all_within_limits v))) ≡ true) (sym copy) held
