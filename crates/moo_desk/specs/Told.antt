-- Losses that are noted, and told of.
use Rattle.std.specs.Prelude.{◌≡◌, ◌⊎◌, ◌+◌, ◌-◌, ◌^◌, min, [], ◌∷◌, ◌++◌, Option, Some, None}
use Rattle.moo_arrivals.specs.{declared.cause.Cause.TheVariants.{OutOfMemory}, declared.cause.Loss.{Loss}}
use Rattle.moo_arrivals.specs.declared.route.Route.TheVariants.{Unknown}
use Rattle.moo_desk.specs.declared.losses.Losses.{Losses}

-- this loss is noted as the last one; or, if there is no memory for it, that there is one more
abbrev pub NotesLoss : Losses → Loss → Losses → Type 0
NotesLoss old loss new =
    ((new.all.items ≡ old.all.items ++ loss ∷ []) × (new.more ≡ old.more))
    ⊎ ((new.all.items ≡ old.all.items) × (new.more ≡ min (old.more + 1) (2 ^ 32 - 1)))

-- A loss that was noted is told of, and isn't noted any more; after all of these, one for which there was no memory. None is told of only
-- if no loss is left.
abbrev pub TellsOf : Losses → Option Loss → Losses → Type 0
TellsOf old None new = (old.all.items ≡ []) × (old.more ≡ 0) × (new.all.items ≡ []) × (new.more ≡ 0)
TellsOf old (Some loss) new =
    ((old.all.items ≡ new.all.items ++ loss ∷ []) × (new.more ≡ old.more))
    ⊎ ((old.all.items ≡ []) × (new.all.items ≡ []) × (old.more ≡ new.more + 1)
    × (loss ≡ record { route = Unknown; cause = OutOfMemory }))
