-- Why what was asked is refused, in sentences for people: of a batch or a body the first, of calls alone one for each.
use Rattle.std.specs.{Prelude.{ℕ, List, [], ◌∷◌, Option, None, map, option_map, String, string_bytes}, declared.alloc.Global.{Global}}

-- the first sentence, if it is told
abbrev pub first_why : List (Option (List ℕ)) → Option (List ℕ)
first_why [] = None
first_why (why ∷ whys) = why

-- the bytes of the sentences of the code, each in its place
abbrev pub whys_shown : List (Option (String Global)) → List (Option (List ℕ))
whys_shown whys = map (option_map string_bytes) whys
