use Rattle.moo_damage.{proofs.Words.{slots_of_left}, proofs.Noting.{AreSlots, Own, Reached}}
use Rattle.moo_damage.proofs.names.names_apart_on.Given as goal

-- each property is noted, or is left
abbrev pub invariant-loop-key : goal.invariant-loop-key
invariant-loop-key g l =
    let m = (g.R.Rows.held l.rows).maps in
    let left = slots_of_left l.key-iterator.object l.key-iterator.last (g.R.Rows.held l.key-iterator.rows.now).maps in
    record {
      reached : Reached m l.fn.x l.noted left;
      own : Own m l.fn.x l.noted;
      slots : AreSlots m l.fn.x left;
    }
