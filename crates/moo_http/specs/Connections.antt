-- What connections, taken in turn, make of what the service says of itself.
use Rattle.std.specs.{Prelude.{◌≡◌, ◌+◌, ◌++◌, ◌⊎◌, ℕ, List, take, Option, Result, Ok, Err}, Io.KnownBytes.{Appends}}
use Rattle.moo_http.specs.{declared.service.ServiceFault.{ServiceFault}, declared.service.ServiceFault.TheVariants.{Port}}
use Rattle.moo_http.specs.Lines.{listening_line, served_line}

-- the beginning of a text is written, of any length
abbrev pub WritesFront : List ℕ → Option (List ℕ) → Option (List ℕ) → Type 0
WritesFront text before behind = (sent : ℕ) × Appends before behind (take sent text)

-- This text says how many of so many connections were answered and how many failed, and this holds of the two numbers.
abbrev pub SaysAll : (ℕ → ℕ → Type 0) → ℕ → ℕ → List ℕ → Type 0
SaysAll Holds port count text =
    (answered failed : ℕ) × (answered + failed ≡ count) × Holds answered failed
    × (text ≡ listening_line port ++ served_line answered failed)

-- What comes of the service, by its result. If the output fails or memory runs out, no connection is taken yet, or each is.
abbrev pub SaysByResult : (ℕ → ℕ → Type 0) → Type 0 → Result (Unit {0}) ServiceFault → ℕ → ℕ
    → Option (List ℕ) → Option (List ℕ) → Type 0
SaysByResult Holds Stays (Ok done) port count before after =
    (text : List ℕ) × SaysAll Holds port count text × Appends before after text
SaysByResult Holds Stays (Err Port) port count before after = Stays × (after ≡ before)
SaysByResult Holds Stays (Err fault) port count before after =
    (Stays × WritesFront (listening_line port) before after)
    ⊎ ((text : List ℕ) × SaysAll Holds port count text × WritesFront text before after)
