use Rattle.moo_damage.{proofs.Words.{◌≡◌, true, Option, None, Some, refl, ◌⊎◌, sym, ap, ◌∙◌, subst, arith, is_some, option_map, AllByRecursion, get, object_cmp, contents, some_of, nothing, Climbs, next_of, HasEnd, all_then}, proofs.Ending.{ends_here, step_up, step_down, bound}}
use Rattle.moo_damage.proofs.trees.path_to_end.Goals as goal

some_still : {A B : Type 0} (o : Option A) (f : A → B) → is_some o ≡ true → is_some (option_map f o) ≡ true
some_still o f h1 = grind arith

pub returns-in-None-clause-ends : goal.returns-in-None-clause-ends
returns-in-None-clause-ends g c = grind (arith, ends_here)

pub loop-preserved : goal.loop-preserved
loop-preserved g c =
    let m = (g.R.Rows.held c.args.rows.now).maps in
    let link = c.args.link in
    let row = c.in-Some.row.now in
    let there : get m.objects c.loop.at ≡ Some row = sym c.in-Some.ensures in
    record {
      here = subst (λ z. (z ≡ nothing) ⊎ (is_some (get m.objects z) ≡ true)) (sym c.link_of-at.ensures) (c.requires.links.links c.loop.at row there);
      up = λ e.
          let ends = step_up link m c.requires.links c.loop.at row there (subst (HasEnd link m) c.link_of-at.ensures e) in
          let p = c.loop.invariant.up ends in
          (subst (AllByRecursion (HasEnd link m)) (sym c.in_ok-push.ensures.items) (all_then (HasEnd link m) c.loop.path.items c.loop.at p.0 ends), p.1);
      down = λ l p.
          let d = c.loop.invariant.down l p in
          let s = step_down link m c.requires.links c.loop.at row there d.0 d.1 in
          (s.0, subst (λ z. Climbs (next_of link m) z s.0) (sym c.link_of-at.ensures) s.1, omega (arith, s.2, d.2));
    }

pub returns-in-None-object-clause-ends : goal.returns-in-None-object-clause-ends
returns-in-None-object-clause-ends g c = grind (arith, ends_here)

pub returns-in-Some-object-clause-loops : goal.returns-in-Some-object-clause-loops
returns-in-Some-object-clause-loops g c l p = grind (arith, step_down, bound)

pub returns-then-is_some-clause-ends : goal.returns-then-is_some-clause-ends
returns-then-is_some-clause-ends g c = grind (arith, some_still, some_of)
