-- Rows at a check that fails.
use Rattle.std.{proofs.Common.{Result, Err, refl}, specs.Prelude.{IfErr}}
use Rattle.moo_value.specs.declared.value.Value.{Value}
use Rattle.moo_rows.specs.Maps.{Held}
use Rattle.moo_world.{specs.Outcomes.{Outcome}, specs.World.{World}}
use Rattle.moo_calls_shared.{specs.declared.fault.Fault.{Fault}, specs.declared.fault.Fault.TheVariants.{Moo}, specs.Outcomes.{ComesTo}}
use Rattle.moo_batch.specs.Outcomes.{ComesInTurn, Stays, StaysAtCheck}

module _ (old new : Held) where
  -- a call on the world
  pub comes-stays : (o : Outcome World) (r : Result Value Fault) → ComesTo o old new r → IfErr r (StaysAtCheck old new)
  comes-stays o (Err (Moo reason)) comes = comes.1
  comes-stays o r comes = tt

  -- the calls that a petition holds: a check that fails is one of theirs
  pub held-stays : (o : Outcome World) (r : Result Value Fault) → ComesInTurn o new r → IfErr r (StaysAtCheck old new)
  held-stays o (Err (Moo reason)) comes = absurd comes
  held-stays o r comes = tt

  -- a call of petitions that isn't a grant
  pub asked-stays : (r : Result Value Fault) → Stays old new r → IfErr r (StaysAtCheck old new)
  asked-stays (Err (Moo reason)) stays = stays
  asked-stays r stays = tt

-- a call that only reads
pub reads-stays : (held : Held) (r : Result Value Fault) → IfErr r (StaysAtCheck held held)
reads-stays held (Err (Moo reason)) = refl
reads-stays held r = tt
