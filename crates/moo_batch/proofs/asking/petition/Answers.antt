use Rattle.std.{proofs.Common.{◌≡◌, true, sym, ap, ◌∙◌, subst, rules}, specs.List.{list_all}}
use Rattle.moo_value.specs.Value.{spread}
use Rattle.moo_world.{specs.Outcomes.{given as given_to}, specs.Petitions.{is_named, are_few, are_shallow}, specs.Requests.{are_on_world, petition_filed, petition}}
use Rattle.moo_calls_shared.proofs.Passed.{check_passed}
use Rattle.moo_batch.specs.Outcomes.{state_in, Reaches}
use Rattle.moo_batch.proofs.asking.petition.Goals as goal

pub returns-clause-reaches : goal.returns-clause-reaches
returns-clause-reaches g c =
    let s = state_in (g.R.Rows.held c.args.rows.now) in
    let p = c.args.programmer in
    let calls = c.in_ok-calls.calls.now in
    let named : list_all is_named (spread calls) ≡ true = search rules in
    let few : are_few calls ≡ true = search rules in
    let on_world : are_on_world calls ≡ true = search rules in
    let shallow : are_shallow calls ≡ true = search rules in
    let same : c.in_ok-calls-2.calls ≡ calls = search rules in
    subst (λ outcome. Reaches outcome (g.R.Rows.held c.add_petition.new.rows) c.add_petition.result)
    (sym (ap (λ given. given_to given (petition s p)) c.in_ok-calls.ensures.ok
    ∙ check_passed (list_all is_named (spread calls)) _ _ named
    ∙ check_passed (are_few calls) _ _ few
    ∙ check_passed (are_on_world calls) _ _ on_world
    ∙ check_passed (are_shallow calls) _ _ shallow
    ∙ ap (petition_filed s p) (sym same)))
    c.add_petition.ensures.reaches
