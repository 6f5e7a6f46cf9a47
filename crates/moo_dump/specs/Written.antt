-- What was written of a text before a fault.
use Rattle.std.specs.{Prelude.{◌≡◌, ℕ, List, ◌++◌, Option}, Io.KnownBytes.{Appends}}

-- the first bytes of the text were appended, 0 or more of them
pub record AppendsFront (old new : Option (List ℕ)) (text : List ℕ) : Type 0 where
  pub front : List ℕ
  pub rest : List ℕ
  pub whole : text ≡ front ++ rest
  pub wrote : Appends old new front
