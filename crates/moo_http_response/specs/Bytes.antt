-- The bytes of a response.
use Rattle.std.specs.Prelude.{ℕ, List, [], ◌∷◌, ◌++◌, Option, Some, None, codes, decimal, unwrap_or}
use Rattle.http.specs.StatusCode.{reason_phrase}

-- the two bytes that end a line of a head
abbrev pub line_end : List ℕ
line_end = 13 ∷ 10 ∷ []

-- the line that names the method of the route, or nothing if none is to be named
abbrev pub allow_line : Option (List ℕ) → List ℕ
allow_line None = []
allow_line (Some method) = codes "allow: " ++ method ++ line_end

-- the head of a response, with the phrase of its status and the empty line
unfoldable pub head_text : ℕ → List ℕ → Option (List ℕ) → ℕ → List ℕ
head_text status kind allow size =
    codes "HTTP/1.1 " ++ decimal status ++ codes " " ++ unwrap_or (reason_phrase status) [] ++ line_end
    ++ (codes "content-type: " ++ (kind ++ line_end))
    ++ (codes "content-length: " ++ decimal size ++ line_end)
    ++ (codes "connection: close" ++ line_end)
    ++ allow_line allow
    ++ line_end
