-- A call that is asked alone.
use Rattle.std.specs.Prelude.{ℕ, List, [], ◌∷◌, Option, None, option_map}
use Rattle.moo_value.specs.declared.value.ObjNo.{ObjNo}
use Rattle.moo_world.specs.declared.call.Batch.{Batch}
use Rattle.moo_text.specs.LineReading.{call_of}

-- a batch of the one call that a text is, meant for any number; None if the text isn't a call
abbrev pub alone : ObjNo → List ℕ → Option Batch
alone programmer text = option_map (λ call. record { programmer = programmer; at = None; calls = call ∷ [] }) (call_of text)
