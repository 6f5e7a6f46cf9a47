use Rattle.moo_damage.{proofs.Words.{◌≡◌, Some, AllByRecursion, get, entries, object_cmp, contents, objects_left, HasEnd, Loops, AreEnding}, proofs.Firsts.{FirstLeft}}
use Rattle.moo_damage.proofs.trees.first_loop.Given as goal

-- the first of those that are left is the first of all
abbrev pub invariant-loop-x : goal.invariant-loop-x
invariant-loop-x g l =
    let m = (g.R.Rows.held l.rows).maps in
    let left = objects_left l.x-iterator.last (g.R.Rows.held l.x-iterator.rows.now).maps in
    record {
      first : FirstLeft (λ x _. HasEnd l.link m x) (λ x _. Loops l.link m x) left (entries m.objects);
      held : AllByRecursion (λ e. get m.objects e.0 ≡ Some e.1) left;
      known : AreEnding l.link m (contents object_cmp l.known);
    }
