use Rattle.moo_laws.proofs.Disclosing.{clash_listed, clash_same, meant_listed, meant_same}
use Rattle.moo_world.proofs.Lemmas.{and_parts, same_object}
use Rattle.moo_laws.{proofs.GuardedBatches.{before}, proofs.ReadingBatches.{reads_before}}
use Rattle.moo_laws.proofs.refusals.refusals_tell_no_more.Goals as goal

pub returns : goal.returns
returns c = record {
  agree = λ p s t call args reason agree. (
    meant_same p s.world t.world agree.worlds.rest agree.worlds.slots call args reason,
    clash_same p s.world t.world agree.worlds.rest agree.worlds.slots args reason,
  );
  alike = λ p s t call args reason alike. (
    meant_same p s.world t.world alike.worlds.rest alike.worlds.slots call args reason,
    clash_same p s.world t.world alike.worlds.rest alike.worlds.slots args reason,
  );
  alike_before = λ p s t batch place formed none alike h. before p batch.calls place s t formed none alike (and_parts (same_object batch.programmer p) _ h).1;
  agree_before = λ p s t batch place agree h. reads_before p batch.calls place s t agree (and_parts (same_object batch.programmer p) _ h).1;
  listed = λ p w call args reason. (meant_listed w p call args reason, clash_listed w p args reason);
}
