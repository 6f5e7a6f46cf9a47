use Rattle.std.{proofs.Common.{rules, ◌≡◌, ◌+◌, ◌∷◌, Err, drop, refl, sym, subst, ap, arith}, proofs.lemmas.Grind.{common_steps}}
use Rattle.moo_rows.specs.Maps.{Held}
use Rattle.moo_world.{specs.Requests.{held_steps}, specs.Rows.{IsGood}}
use Rattle.moo_calls_shared.specs.Outcomes.{world_in}
use Rattle.moo_batch.{specs.Outcomes.{ComesInTurn, held_at}, proofs.InTurn.{HaveStepped, stepped-one, stepped-fits, stepped-all, stepped-kept, stepped-stopped}}
use Rattle.moo_batch.proofs.granting.run_petitioned_calls.Goals as goal

pub loop-held-init : goal.loop-held-init
loop-held-init g c = record {
  stepped = record { steps = refl; good = c.requires.good; beside = refl; base = refl; numbers = λ last lead. lead; fit = c.requires.fit };
  place = refl;
}

pub loop-held-preserved : goal.loop-held-preserved
loop-held-preserved g c =
    let left = drop (c.loop-held.held-index + 1) c.args.helds.now in
    let next : drop c.loop-held.held-index c.args.helds.now ≡ c.held-item.result ∷ left = grind (arith, common_steps) in
    let same : g.R.Rows.held c.may_call.new.self ≡ g.R.Rows.held c.loop-held.rows = c.may_call.ensures.yes (search rules) in
    let stepped = subst (λ now. HaveStepped (g.R.Rows.held c.args.rows.now) c.args.wizard c.args.helds.now c.loop-held.place now (drop c.loop-held.held-index c.args.helds.now)) (sym same) c.loop-held.invariant.stepped in
    record {
      stepped = stepped-one c.held-item.result left c.in-Ok._done (g.R.Rows.held c.run_petitioned_call.new.rows) next stepped c.in-Ok.ensures.comes c.in-Ok.ensures.kept;
      place = ap (λ n. n + 1) c.loop-held.invariant.place;
    }

pub run_petitioned_call-requires-clause-good : goal.run_petitioned_call-requires-clause-good
run_petitioned_call-requires-clause-good g c =
    subst (λ (now : Held). IsGood now.maps) (sym (c.may_call.ensures.yes (search rules))) c.loop-held.invariant.stepped.good

pub run_petitioned_call-requires-clause-fit : goal.run_petitioned_call-requires-clause-fit
run_petitioned_call-requires-clause-fit g c = stepped-fits c.held-item.result (drop (c.loop-held.held-index + 1) c.args.helds.now) (grind (arith, common_steps)) c.loop-held.invariant.stepped

pub run_petitioned_call-requires-clause-leave : goal.run_petitioned_call-requires-clause-leave
run_petitioned_call-requires-clause-leave g c = c.may_call.ensures.leave (search rules)

pub returns-in-Err-clause-comes : goal.returns-in-Err-clause-comes
returns-in-Err-clause-comes g c =
    let new = g.R.Rows.held c.run_petitioned_call.new.rows in
    let same : g.R.Rows.held c.may_call.new.self ≡ g.R.Rows.held c.loop-held.rows = c.may_call.ensures.yes (search rules) in
    let was = subst (λ now. HaveStepped (g.R.Rows.held c.args.rows.now) c.args.wizard c.args.helds.now c.loop-held.place now (drop c.loop-held.held-index c.args.helds.now)) (sym same) c.loop-held.invariant.stepped in
    let stopped : ComesInTurn (held_steps 0 (world_in (g.R.Rows.held c.args.rows.now)) c.args.wizard c.args.helds.now) new (Err (held_at c.loop-held.place c.in-Err.fault)) =
    stepped-stopped c.held-item.result (drop (c.loop-held.held-index + 1) c.args.helds.now) c.in-Err.fault new (grind (arith, common_steps)) was c.in-Err.ensures.comes in
    search rules

pub returns-clause-comes : goal.returns-clause-comes
returns-clause-comes g c = stepped-all (grind (arith, common_steps)) c.loop-held.invariant.stepped

pub returns-clause-kept : goal.returns-clause-kept
returns-clause-kept g c = stepped-kept (grind (arith, common_steps)) c.loop-held.invariant.stepped
