use Rattle.moo_props.proofs.Words.{◌≡◌, true, length, IfSome, find, walk_down, is_among, world_of, chain, meets_on, from_here}
use Rattle.moo_props.proofs.clashing.sharing_definer.Given as goal

-- the first that defines a name of new's is still to come
abbrev pub invariant-loop-at : goal.invariant-loop-at
invariant-loop-at g l =
    let t = (g.R.Rows.held l.rows).maps in
    let w = world_of t in
    record {
      first : find (meets_on w l.new) (from_here t l.x l.at) ≡ find (meets_on w l.fn.new) (walk_down w l.fn.x);
      under : IfSome l.at (λ y. is_among l.x (chain w y) ≡ true);
    }

abbrev pub decreases-loop-at : goal.decreases-loop-at
decreases-loop-at g l = length (from_here (g.R.Rows.held l.rows).maps l.x l.at)
