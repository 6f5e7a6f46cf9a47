use Rattle.moo_laws.proofs.QuotaBatches.{kept_quotas_move}
use Rattle.moo_laws.proofs.quotas.kept_quotas_move.Goals as goal

pub returns : goal.returns
returns c = kept_quotas_move
