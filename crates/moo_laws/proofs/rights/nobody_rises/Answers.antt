use Rattle.moo_laws.proofs.Ranks.{nobody_rises, batch_keeps}
use Rattle.moo_laws.proofs.rights.nobody_rises.Goals as goal

pub returns : goal.returns
returns c = record { batches = nobody_rises; batch = batch_keeps }
