-- What is kept of the refusals that were seen, in their order.
use Rattle.std.specs.Prelude.{◌≡◌, ◌⊎◌, Bool, true, false, List, [], ◌∷◌, ◌++◌, map, Option}
use Rattle.moo_world.specs.declared.call.Batch.{Batch}
use Rattle.moo_batch.specs.{declared.witness.Facts.{Facts}, declared.witness.Refusal.{Refusal}}
use Rattle.moo_reasons.specs.declared.why.Whys.{Whys}

-- whether lines are wanted, whether memory ran out for one, and the refusals of which there is a line
pub record Seen : Type 0 where
  pub is_wanted : Bool
  pub is_lost : Bool
  pub refusals : List Refusal

-- If lines are wanted, there is one more after the others, that of this refusal, or memory ran out for it; else nothing changes.
abbrev pub SeesRefusal : Seen → Batch → Refusal → Option Facts → Seen → Type 0
SeesRefusal old batch refusal facts new = (new.is_wanted ≡ old.is_wanted)
    × (old.is_wanted ≡ false → new ≡ old)
    × (old.is_wanted ≡ true → (new.is_lost ≡ true)
    ⊎ ((new.is_lost ≡ old.is_lost) × (new.refusals ≡ old.refusals ++ refusal ∷ [])))

-- what the whys of a request keep
abbrev pub seen_by : Whys → Seen
seen_by whys = record { is_wanted = whys.is_wanted; is_lost = whys.is_lost; refusals = map (λ why. why.refusal) whys.seen.items }
