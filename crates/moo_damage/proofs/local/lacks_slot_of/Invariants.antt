use Rattle.moo_damage.proofs.Words.{◌≡◌, not, list_any, slots_of_left, has_slot, lacks_slot_of}
use Rattle.moo_damage.proofs.local.lacks_slot_of.Given as goal

-- x lacks one of those that are left just where it lacks one of all
abbrev pub invariant-loop-key : goal.invariant-loop-key
invariant-loop-key g l =
    let m = (g.R.Rows.held l.rows).maps in
    list_any (λ e. not (has_slot m l.x e.0.1)) (slots_of_left l.key-iterator.object l.key-iterator.last (g.R.Rows.held l.key-iterator.rows.now).maps) ≡ lacks_slot_of m l.x l.fn.y
