use Rattle.moo_laws.{proofs.ReadingBatches.{judged, told}, proofs.Unseen.{other_value, own_agree}}
use Rattle.moo_laws.proofs.batches.reading_batches_tell_no_more.Goals as goal

pub returns : goal.returns
returns c = record {
  batch = λ p s t b agree reads. (judged p s t b agree reads).0;
  after = λ p s t b agree reads. (judged p s t b agree reads).1;
  batches = λ p s t bs agree reads. told p s t bs agree reads;
  values = λ p x n value s bs wf hidden reads. told p s _ bs (other_value p x n value s wf hidden) reads;
  petitions = own_agree;
}
