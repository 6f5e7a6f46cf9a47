-- Where a line ends.
use Rattle.moo_load.proofs.Words.{◌≡◌, ℕ, ◌+◌, Bool, true, false, cond, Some, List, [], ◌∷◌, ◌++◌, length, refl, ap, ◌∙◌, arith, ◌==◌, not, list_all, position_from, false≢true, and_parts, IsOneLine}

abbrev is_end : ℕ → Bool
is_end byte = byte == 10

end_from : (line rest : List ℕ) (i : ℕ) → IsOneLine line → position_from is_end i (line ++ 10 ∷ rest) ≡ Some (i + length line)
end_from [] rest i one = let e : i ≡ i + 0 = omega arith in ap (λ (n : ℕ). Some n) e
end_from (c ∷ line) rest i one =
    let p = and_parts (not (is_end c)) (list_all (λ byte. not (is_end byte)) line) one in
    let e : i + 1 + length line ≡ i + length (c ∷ line) = omega arith in
    elim (is_end c) as (λ (b : Bool). not b ≡ true → cond b (Some i) (position_from is_end (i + 1) (line ++ 10 ∷ rest)) ≡ position_from is_end (i + 1) (line ++ 10 ∷ rest)) [ true ↦ λ h. absurd (false≢true h) | false ↦ λ h. refl ] p.0 ∙ end_from line rest (i + 1) p.1 ∙ ap (λ (n : ℕ). Some n) e

-- the first end is after the line
pub first_end : (bytes line rest : List ℕ) → IsOneLine line → bytes ≡ line ++ 10 ∷ rest → position_from is_end 0 bytes ≡ Some (length line)
first_end bytes line rest one e = grind (arith, end_from)
