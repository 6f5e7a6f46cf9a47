use Rattle.moo_run_laws.proofs.LedLemmas.{moments_keep}
use Rattle.moo_run_laws.proofs.rights.led_batches_keep_rights.Goals as goal

pub returns : goal.returns
returns c = record { moments = moments_keep }
