-- Which machine the lines of a head name.
use Rattle.std.specs.Prelude.{◌==◌, ◌&&◌, ◌||◌, ℕ, List, [], ◌∷◌, Bool, true, take, drop, length, codes, nat_le, not, is_some}
use Rattle.moo_http_request.specs.{Lines.{Line, is_same_name}, Numbers.{bounded_of}}

-- nothing, or a colon and a port
abbrev pub is_port : List ℕ → Bool
is_port [] = true
is_port (b ∷ digits) = b == 58 && is_some (bounded_of 65535 digits)

-- the value is that name in any case, with or without a port
abbrev pub is_name_of : List ℕ → List ℕ → Bool
is_name_of name value = nat_le (length name) (length value) && (is_same_name (take (length name) value) name && is_port (drop (length name) value))

-- this machine, by one of its names
abbrev pub is_own_host : List ℕ → Bool
is_own_host value = is_name_of (codes "127.0.0.1") value || (is_name_of (codes "localhost") value || is_name_of (codes "[::1]") value)

-- a line that names no machine but this one
abbrev pub is_own_line : Line → Bool
is_own_line line = not (is_same_name line.0 (codes "host")) || is_own_host line.1
