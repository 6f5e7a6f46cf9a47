-- How long the line is that says why something is refused.
use Rattle.std.specs.Prelude.{◌≤◌, ℕ, length, String, string_bytes}

-- the most bytes of a line
abbrev pub longest : ℕ
longest = 1000

-- the line has at most 1,000 bytes
abbrev pub IsShort : {A : Type 0} → String A → Type 0
IsShort line = length (string_bytes line) ≤ longest
