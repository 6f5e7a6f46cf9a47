-- Numbers written in digits.
use Rattle.moo_http_request.proofs.Words.{◌≡◌, ◌<◌, ◌+◌, ◌*◌, ◌-◌, ℕ, List, [], ◌∷◌, ◌++◌, true, length, take, get_or, refl, ap, ◌∙◌, list_all, take_more, is_digit, value_after}
use Rattle.std.proofs.lemmas.List.Folds.{list_all-append}

value_after-append : (n : ℕ) (xs : List ℕ) (c : ℕ) → value_after n (xs ++ c ∷ []) ≡ 10 * value_after n xs + (c - 48)
value_after-append n [] c = refl
value_after-append n (x ∷ xs) c = value_after-append (10 * n + (x - 48)) xs c

-- one more digit
pub value_after-more : (text : List ℕ) (i d : ℕ) → i < length text → value_after 0 (take (i + 1) text) ≡ 10 * value_after 0 (take i text) + (get_or text i d - 48)
value_after-more text i d low = ap (value_after 0) (take_more text i d low) ∙ value_after-append 0 (take i text) (get_or text i d)

pub digits-more : (text : List ℕ) (i d : ℕ) → i < length text → list_all is_digit (take i text) ≡ true → is_digit (get_or text i d) ≡ true → list_all is_digit (take (i + 1) text) ≡ true
digits-more text i d low all one =
    ap (list_all is_digit) (take_more text i d low) ∙ list_all-append is_digit (take i text) (get_or text i d ∷ []) ∙ rw all (rw one refl)
