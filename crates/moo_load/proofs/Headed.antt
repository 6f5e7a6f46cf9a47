-- The two lines of a heading.
use Rattle.moo_load.{proofs.Words.{◌≡◌, ℕ, ◌+◌, ◌<◌, pos, negsuc, ◌≤ℤ◌, List, [], ◌∷◌, ◌++◌, length, drop, refl, sym, ap, ◌∙◌, append_assoc, length-append, arith, codes, ◌^◌, decimal, lt-ltb, ints, drop_at, drop-drop, ObjNo, Int, Obj, Fits, print, State, range_of, heading, IsHeld, IsOneLine}, proofs.One.Fitting.{fit}, proofs.OneLine.{one_line_append, integer_plain, object_plain}}

pub count_fits : (n : ℕ) → n < 2 ^ 63 → Fits (Int (pos n))
count_fits n limit = fit (Int (pos n)) (lt-ltb n 9223372036854775808 (omega (arith, limit)))

pub assigned_fits : (x : ObjNo) → negsuc 0 ≤ℤ x.0 → x.0 ≤ℤ pos 2147483647 → Fits (Obj x)
assigned_fits x low high = fit (Obj x) (range_of x.0 (grind (arith, ints)))

abbrev pub top_of : State → ObjNo
top_of s = record { 0 = s.world.top }

abbrev pub seq_line : State → List ℕ
seq_line s = codes "seq " ++ decimal s.seq

abbrev pub top_line : State → List ℕ
top_line s = codes "top " ++ print (Obj (top_of s))

pub seq_plain : (s : State) → IsHeld s → IsOneLine (seq_line s)
seq_plain s held = one_line_append (codes "seq ") (decimal s.seq) refl (integer_plain (pos s.seq) (count_fits s.seq held.limit).0)

pub top_fits : (s : State) → IsHeld s → Fits (Obj (top_of s))
top_fits s held = assigned_fits (top_of s) held.formed.world.limits.top.0 held.formed.world.limits.top.1

pub top_plain : (s : State) → IsHeld s → IsOneLine (top_line s)
top_plain s held = one_line_append (codes "top ") (print (Obj (top_of s))) refl (object_plain s.world.top (top_fits s held).0)

pub lines_are : (s : State) (rest : List ℕ) → heading s ++ rest ≡ seq_line s ++ 10 ∷ (top_line s ++ 10 ∷ rest)
lines_are s rest =
    append_assoc (seq_line s) (10 ∷ (top_line s ++ 10 ∷ [])) rest ∙ ap (λ (t : List ℕ). seq_line s ++ 10 ∷ t) (append_assoc (top_line s) (10 ∷ []) rest)

-- what follows a line
pub after_line : (text line rest : List ℕ) (at next : ℕ) → drop at text ≡ line ++ 10 ∷ rest → next ≡ at + length line + 1 → drop next text ≡ rest
after_line text line rest at next is count =
    let whole : line ++ 10 ∷ rest ≡ (line ++ 10 ∷ []) ++ rest = sym (append_assoc line (10 ∷ []) rest) in
    let long : length (line ++ 10 ∷ []) ≡ length line + 1 = length-append line (10 ∷ []) in
    let there : next ≡ at + length (line ++ 10 ∷ []) = omega arith in
    ap (λ (n : ℕ). drop n text) there ∙ sym (drop-drop (length (line ++ 10 ∷ [])) at text) ∙ ap (drop (length (line ++ 10 ∷ []))) (is ∙ whole) ∙ drop_at (line ++ 10 ∷ []) rest (length (line ++ 10 ∷ [])) refl
