-- Room for a change of a quota.
use Rattle.std.specs.{Prelude.{ℤ, ◌+ℤ◌, ⊤, FitsSigned, Option, None, Some}, Int.{w64}}

-- the quota, if there is one, and so many more are still an integer of 64 bits
abbrev pub HasRoom : Option ℤ → ℤ → Type 0
HasRoom None by = ⊤
HasRoom (Some quota) by = FitsSigned w64 quota → FitsSigned w64 (quota +ℤ by)
