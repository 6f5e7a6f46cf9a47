use Rattle.moo_progress.{proofs.Frozen.{frozen_through}, specs.Telling.{inner_of}}
use Rattle.moo_progress.proofs.telling.TellingDisk.read_at.Goals as goal

pub returns-clause-frozen : goal.returns-clause-frozen
returns-clause-frozen g c frozen =
    let below = c.read_at.ensures.frozen frozen in
    (below.0, frozen_through inner_of below.1)
