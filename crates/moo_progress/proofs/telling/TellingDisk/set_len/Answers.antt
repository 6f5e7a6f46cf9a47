use Rattle.moo_progress.{proofs.Frozen.{frozen_through}, specs.Telling.{inner_of}}
use Rattle.moo_progress.proofs.telling.TellingDisk.set_len.Goals as goal

pub returns-clause-frozen : goal.returns-clause-frozen
returns-clause-frozen g c frozen =
    let below = c.set_len.ensures.frozen frozen in
    (below.0, frozen_through inner_of below.1)
