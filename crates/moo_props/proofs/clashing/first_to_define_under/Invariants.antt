use Rattle.moo_props.proofs.Words.{◌≡◌, true, length, IfSome, find, walk_down, is_among, defines_name, world_of, chain, from_here}
use Rattle.moo_props.proofs.clashing.first_to_define_under.Given as goal

-- the first that defines the name is still to come
abbrev pub invariant-loop-at : goal.invariant-loop-at
invariant-loop-at g l =
    let t = (g.R.Rows.held l.rows).maps in
    let w = world_of t in
    record {
      first : find (λ y. defines_name w y l.name) (from_here t l.x l.at) ≡ find (λ y. defines_name w y l.fn.name) (walk_down w l.fn.x);
      under : IfSome l.at (λ y. is_among l.x (chain w y) ≡ true);
    }

abbrev pub decreases-loop-at : goal.decreases-loop-at
decreases-loop-at g l = length (from_here (g.R.Rows.held l.rows).maps l.x l.at)
