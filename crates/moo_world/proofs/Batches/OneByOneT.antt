-- On the small tree of the worked rows, what children moved one by one leave.
use Rattle.moo_world.{proofs.Words.{◌≡◌, ◌∷◌, [], refl, pos, false, Some, None, Clear, Set, Int, nothing, same_object, same_text, folded, slot_of, parent_of, chain, is_object, children_of, moved_one_by_one, taken_out, world_shown}, proofs.Batches.TreeT.{T, no, reading}}

children_worked :
    -- the child of #4 moved to #1, before #4 goes: #6 below it has lost a
    (slot_of (moved_one_by_one T (children_of T (no 4)) (no 1)) (no 6) (97 ∷ []) ≡ None)
    -- and has kept b
    × (slot_of (moved_one_by_one T (children_of T (no 4)) (no 1)) (no 6) (98 ∷ []) ≡ Some (record { definer = no 5; owner = no 3; bits = reading; state = Set (Int (pos 21)) }))
    -- the five children of the root, #0, #2, #3, #4 and #7, moved to nothing: a move after the first begins where others have gone
    × (is_object (taken_out (moved_one_by_one T (children_of T (no 1)) nothing) (no 1)) (no 1) ≡ false)
    -- #7 is then a root
    × (parent_of (taken_out (moved_one_by_one T (children_of T (no 1)) nothing) (no 1)) (no 7) ≡ Some nothing)
    -- and #5 still has a
    × (slot_of (taken_out (moved_one_by_one T (children_of T (no 1)) nothing) (no 1)) (no 5) (97 ∷ []) ≡ Some (record { definer = no 4; owner = no 3; bits = reading; state = Clear }))
unfolding world_shown chain same_object same_text folded
children_worked = (refl, refl, refl, refl, refl)
