use Rattle.std.{proofs.Common.{◌≡◌, true, Ok, Some, List, sym, ap, ◌∙◌, subst, rules, ◌≤◌, length}, specs.List.{list_all}, specs.Prelude.{nat_le, nat_lt}, proofs.lemmas.Bool.{and_parts, leb-true}, proofs.lemmas.Result.{on_ok_weaker}}
use Rattle.moo_value.{specs.declared.value.Value.{Value}, specs.Value.{spread}}
use Rattle.moo_rows.{specs.declared.row.PetitionId.{PetitionId}, specs.declared.row.PetitionRow.{PetitionRow}}
use Rattle.moo_world.{specs.Arguments.{fits, is_number}, specs.declared.reason.Reason.TheVariants.{NoWizard, NoPetition}, specs.Outcomes.{check, fails, found_or, given as given_to}, specs.Requests.{State, grant, held_steps, in_world, one_integer, petition_at, without}, specs.Rights.{is_wizard}, specs.World.{World}, proofs.Batches.Requested.{found_there}, proofs.Form.Petitions.{held_fit}, specs.Petitions.{is_named, are_few}}
use Rattle.moo_calls_shared.specs.Outcomes.{world_in}
use Rattle.moo_batch.{specs.Outcomes.{state_in, ComesInTurn, KeepInTurn, Reaches}, proofs.Beside.{removed-keeps, removed-state}, proofs.InTurn.{granted-reaches, granted-keeps}, proofs.AtCheck.{held-stays}}
use Rattle.moo_batch.proofs.granting.grant.Goals as goal
use Rattle.moo_world.specs.declared.petition.TheConstants.{MOST_HELD}

pub returns-clause-check : goal.returns-clause-check
returns-clause-check g c = held-stays (g.R.Rows.held c.args.rows.now) (g.R.Rows.held c.run_petitioned_calls.new.rows) _ c.run_petitioned_calls.result c.run_petitioned_calls.ensures.comes

pub run_petitioned_calls-requires-clause-good : goal.run_petitioned_calls-requires-clause-good
run_petitioned_calls-requires-clause-good g c = (removed-keeps (g.R.Rows.held c.args.rows.now) (g.R.Rows.held c.remove_petition.new.self) c.in-Some.id c.in_ok-remove_petition.ensures.ok c.requires.good).good

pub run_petitioned_calls-requires-clause-fit : goal.run_petitioned_calls-requires-clause-fit
run_petitioned_calls-requires-clause-fit g c =
    let s = state_in (g.R.Rows.held c.args.rows.now) in
    let found : petition_at s c.in_ok-number.number ≡ Some (c.in-Some.id, c.in-Some.row.now) = search rules in
    let there = found_there s c.in_ok-number.number (c.in-Some.id, c.in-Some.row.now) found in
    let fit = held_fit c.in-Some.row.now (c.requires.good.petitions.fit c.in-Some.id c.in-Some.row.now there) in
    subst (λ helds. list_all fits helds ≡ true) (sym (c.items.ensures.plain ∙ ap (λ (r : PetitionRow). spread r.calls) c.in_ok-row.ensures)) fit

pub returns-clause-reaches : goal.returns-clause-reaches
returns-clause-reaches g c =
    let old = g.R.Rows.held c.args.rows.now in
    let mid = g.R.Rows.held c.remove_petition.new.self in
    let new = g.R.Rows.held c.run_petitioned_calls.new.rows in
    let s = state_in old in
    let p = c.args.programmer in
    let n = c.in_ok-number.number in
    let given : one_integer c.args.args.now ≡ Ok n = search rules in
    let wizard : is_wizard s.world p ≡ true = search rules in
    let found : petition_at s n ≡ Some (c.in-Some.id, c.in-Some.row.now) = search rules in
    let is = removed-state old mid c.in-Some.id c.in_ok-remove_petition.ensures.ok in
    let helds : c.items.result.now ≡ spread c.in-Some.row.now.calls = c.items.ensures.plain ∙ ap (λ (r : PetitionRow). spread r.calls) c.in_ok-row.ensures in
    let comes = subst (λ (w : World). ComesInTurn (held_steps 0 w p (spread c.in-Some.row.now.calls)) new c.run_petitioned_calls.result) (ap (λ (t : State). t.world) is)
    (subst (λ (l : List Value). ComesInTurn (held_steps 0 (world_in mid) p l) new c.run_petitioned_calls.result) helds c.run_petitioned_calls.ensures.comes) in
    subst (λ effect. Reaches effect new c.run_petitioned_calls.result)
    (sym (ap (λ r. given_to r (grant s p)) given
    ∙ ap (λ b. check b (fails NoWizard) (found_or (petition_at s n) NoPetition (λ e. in_world (without e.0 s) (held_steps 0 s.world p (spread e.1.calls))))) wizard
    ∙ ap (λ o. found_or o NoPetition (λ e. in_world (without e.0 s) (held_steps 0 s.world p (spread e.1.calls)))) found))
    (granted-reaches (without c.in-Some.id s) p c.items.result.now mid new (held_steps 0 s.world p (spread c.in-Some.row.now.calls)) c.run_petitioned_calls.result is comes c.run_petitioned_calls.ensures.kept)

pub returns-clause-kept : goal.returns-clause-kept
returns-clause-kept g c =
    let old = g.R.Rows.held c.args.rows.now in
    let mid = g.R.Rows.held c.remove_petition.new.self in
    let new = g.R.Rows.held c.run_petitioned_calls.new.rows in
    let p = c.args.programmer in
    let n = c.in_ok-number.number in
    let e : PetitionId × PetitionRow = (c.in-Some.id, c.in-Some.row.now) in
    let given : one_integer c.args.args.now ≡ Ok n = search rules in
    let found : petition_at (state_in old) n ≡ Some e = search rules in
    let helds : c.items.result.now ≡ spread c.in-Some.row.now.calls = c.items.ensures.plain ∙ ap (λ (r : PetitionRow). spread r.calls) c.in_ok-row.ensures in
    let removed = removed-keeps old mid c.in-Some.id c.in_ok-remove_petition.ensures.ok c.requires.good in
    on_ok_weaker c.run_petitioned_calls.result
    (λ kept. granted-keeps p c.args.args.now n e old mid new given found c.in_ok-remove_petition.ensures.ok removed (subst (λ l. KeepInTurn p l mid new) helds kept))
    c.run_petitioned_calls.ensures.kept

pub run_petitioned_calls-requires-clause-few : goal.run_petitioned_calls-requires-clause-few
run_petitioned_calls-requires-clause-few g c =
    let s = state_in (g.R.Rows.held c.args.rows.now) in
    let row = c.in-Some.row.now in
    let calls = spread row.calls in
    let found : petition_at s c.in_ok-number.number ≡ Some (c.in-Some.id, row) = search rules in
    let fit = c.requires.good.petitions.fit c.in-Some.id row (found_there s c.in_ok-number.number (c.in-Some.id, row) found) in
    let after = (and_parts (is_number row.who) _ fit).1 in
    let few = (and_parts (are_few row.calls) _ (and_parts (list_all is_named calls) _ after).1).0 in
    let short = leb-true (length calls) MOST_HELD (and_parts (nat_lt 0 (length calls)) (nat_le (length calls) MOST_HELD) few).1 in
    subst (λ helds. length helds ≤ MOST_HELD) (sym (c.items.ensures.plain ∙ ap (λ (r : PetitionRow). spread r.calls) c.in_ok-row.ensures)) short
