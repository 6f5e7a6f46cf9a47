use Rattle.moo_memory.{proofs.Words.{◌≡◌, ◌++◌, true}, proofs.Tied.{tied_to}}
use Rattle.moo_memory.proofs.listing.list_tied.Given as goal

-- those so far, and the partners among the pairs that are left
abbrev pub invariant-loop-pair : goal.invariant-loop-pair
invariant-loop-pair l =
    let left = tied_to l.x (λ _. true) in
    l.list.items ++ left l.pair-iterator ≡ l.fn.list.items ++ left l.initial.pair-iterator
