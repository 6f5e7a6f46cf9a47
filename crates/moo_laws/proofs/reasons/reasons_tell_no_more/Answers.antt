use Rattle.moo_laws.{proofs.GuardedBatches.{refused_alike}, proofs.ReadingBatches.{refused_reading}}
use Rattle.moo_laws.proofs.reasons.reasons_tell_no_more.Goals as goal

pub returns : goal.returns
returns c = record { alike = refused_alike; agree = refused_reading }
