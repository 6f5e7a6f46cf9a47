use Rattle.moo_laws.{proofs.GuardedBatches.{told_alike}, proofs.GuardedValues.{other_value, one_value, other_petition}}
use Rattle.moo_laws.proofs.guarded.batches_tell_no_more.Goals as goal

pub returns : goal.returns
returns c = record {
  batches = λ p s t bs formed none alike mine. told_alike p bs s t formed none alike mine;
  values = λ p x n slot value other s here guarded. (other_value p x n slot value s here guarded, one_value s x n slot value other here);
  petitions = other_petition;
}
