use Rattle.moo_props.proofs.Words.{◌≡◌, true, length, is_among, world_of, chain, after_below}
use Rattle.moo_props.proofs.descent.next_beside.Given as goal

-- what comes after all that is below y comes after all that is below this ancestor of y
abbrev pub invariant-loop-x : goal.invariant-loop-x
invariant-loop-x g l =
    let t = (g.R.Rows.held l.rows).maps in
    record {
      same : after_below t l.x l.done ≡ after_below t l.fn.x l.fn.y;
      under : is_among l.x (chain (world_of t) l.done) ≡ true;
    }

abbrev pub decreases-loop-x : goal.decreases-loop-x
decreases-loop-x g l = length (chain (world_of (g.R.Rows.held l.rows).maps) l.done)
