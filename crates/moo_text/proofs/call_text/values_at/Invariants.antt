use Rattle.moo_text.{proofs.Shared.{◌≡◌, length, true, list_all, fits}, proofs.Reading.{GoesOn}}
use Rattle.moo_text.proofs.call_text.values_at.Given as goal

abbrev pub invariant-loop-values : goal.invariant-loop-values
invariant-loop-values l = record {
  fit : list_all fits l.values.items ≡ true;
  goes_on : GoesOn l.mark l.bytes l.values.items l.rest;
}

abbrev pub decreases-loop-values : goal.decreases-loop-values
decreases-loop-values l = length l.rest
