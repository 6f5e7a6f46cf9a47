-- The calls of a body.
use Rattle.std.specs.{Prelude.{ℕ, ◌+◌, List, [], ◌∷◌}, Option.{option_map_or}}
use Rattle.moo_world.specs.declared.call.Call.{Call}
use Rattle.moo_text.specs.LineReading.{call_of}

-- the calls of texts; or the number of the first text that isn't one
pub data Calls : Type 0 where
  Whole : List Call → Calls
  Bad : ℕ → Calls

-- a call in front of the calls of other texts, if each of these is a call
abbrev pub with_call : Call → Calls → Calls
with_call call (Whole calls) = Whole (call ∷ calls)
with_call call (Bad n) = Bad n

-- the calls that the texts are, which are numbered from n; or the number of the first that isn't a call
abbrev pub calls_from : ℕ → List (List ℕ) → Calls
calls_from n [] = Whole []
calls_from n (text ∷ texts) = option_map_or (λ call. with_call call (calls_from (n + 1) texts)) (call_of text) (Bad n)
