use Rattle.std.{proofs.Common.{◌≡◌, true, Ok, None, Some, sym, ap, ◌∙◌, rules}, specs.Prelude.{◌||◌}}
use Rattle.moo_world.specs.declared.reason.Reason.TheVariants.{NoPetition, NotAsker}
use Rattle.moo_world.{specs.Answers.{zero}, specs.Objects.{same_object}, specs.Outcomes.{Done, fails, check, found_or, given as given_to}, specs.Requests.{decline, one_integer, petition_at, without}, specs.Rights.{is_wizard}}
use Rattle.moo_batch.{specs.Outcomes.{state_in}, proofs.Beside.{removed-keeps, removed-state}}
use Rattle.moo_batch.proofs.declining.decline.Goals as goal

pub returns-in_default-clause-reaches : goal.returns-in_default-clause-reaches
returns-in_default-clause-reaches g c =
    let s = state_in (g.R.Rows.held c.args.rows.now) in
    let p = c.args.programmer in
    let none : petition_at s c.in_ok-number.number ≡ None = search rules in
    ap (λ r. given_to r (decline s p)) (sym c.in_ok-number.ensures)
    ∙ ap (λ o. found_or o NoPetition (λ e. check (same_object e.1.who p || is_wizard s.world p) (fails NotAsker) (Done zero (without e.0 s)))) none

pub returns-then-not-may_decline-clause-reaches : goal.returns-then-not-may_decline-clause-reaches
returns-then-not-may_decline-clause-reaches g c =
    let s = state_in (g.R.Rows.held c.args.rows.now) in
    let p = c.args.programmer in
    let found : petition_at s c.in_ok-number.number ≡ Some (c.in-Some.id, c.in-Some.row.now) = search rules in
    ap (λ r. given_to r (decline s p)) (sym c.in_ok-number.ensures)
    ∙ ap (λ o. found_or o NoPetition (λ e. check (same_object e.1.who p || is_wizard s.world p) (fails NotAsker) (Done zero (without e.0 s)))) found
    ∙ ap (λ b. check b (fails NotAsker) (Done zero (without c.in-Some.id s))) (sym c.may_decline.ensures ∙ c.if-not-may_decline.true)

pub returns-clause-reaches : goal.returns-clause-reaches
returns-clause-reaches g c =
    let s = state_in (g.R.Rows.held c.args.rows.now) in
    let p = c.args.programmer in
    let n = c.in_ok-number.number in
    let given : one_integer c.args.args.now ≡ Ok n = search rules in
    let found : petition_at s n ≡ Some (c.in-Some.id, c.in-Some.row.now) = search rules in
    let may : (same_object c.in-Some.row.now.who p || is_wizard s.world p) ≡ true = search rules in
    ap (λ r. given_to r (decline s p)) given
    ∙ ap (λ o. found_or o NoPetition (λ e. check (same_object e.1.who p || is_wizard s.world p) (fails NotAsker) (Done zero (without e.0 s)))) found
    ∙ ap (λ b. check b (fails NotAsker) (Done zero (without c.in-Some.id s))) may
    ∙ ap (Done zero) (sym (removed-state (g.R.Rows.held c.args.rows.now) (g.R.Rows.held c.remove_petition.new.self) c.in-Some.id c.in_ok-remove_petition.ensures.ok))

pub returns-clause-kept : goal.returns-clause-kept
returns-clause-kept g c = removed-keeps (g.R.Rows.held c.args.rows.now) (g.R.Rows.held c.remove_petition.new.self) c.in-Some.id c.in_ok-remove_petition.ensures.ok c.requires.good
