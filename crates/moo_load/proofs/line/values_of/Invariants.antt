use Rattle.moo_load.{proofs.Words.{List, ◌∷◌, length, ArePrinted}, proofs.Listed.{Left}}
use Rattle.moo_load.proofs.line.values_of.Given as goal
use Rattle.moo_value.specs.declared.value.Value.{Value as A}

abbrev pub invariant-loop-values : goal.invariant-loop-values
invariant-loop-values l = (v : A) (vs : List A) → ArePrinted (v ∷ vs) l.literal → Left (v ∷ vs) l.values.items l.rest

abbrev pub decreases-loop-values : goal.decreases-loop-values
decreases-loop-values l = length l.rest
