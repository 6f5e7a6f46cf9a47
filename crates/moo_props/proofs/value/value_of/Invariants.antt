use Rattle.moo_props.proofs.Words.{◌≡◌, length, true, is_some, get, chain, read_of, world_of, name_of}
use Rattle.moo_props.proofs.value.value_of.Given as goal

-- what is read from here is what x reads, and the property is here
abbrev pub invariant-loop-slot : goal.invariant-loop-slot
invariant-loop-slot g l =
    let t = (g.R.Rows.held l.rows).maps in
    record {
      has : is_some (get t.slots (l.at, l.id)) ≡ true;
      read : read_of (world_of t) l.at (name_of t l.id) ≡ read_of (world_of t) l.fn.x (name_of t l.id);
    }

abbrev pub decreases-loop-slot : goal.decreases-loop-slot
decreases-loop-slot g l = length (chain (world_of (g.R.Rows.held l.rows).maps) l.at)
