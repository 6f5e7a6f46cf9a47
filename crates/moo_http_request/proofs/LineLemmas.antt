-- The lines of a name.
use Rattle.moo_http_request.proofs.Words.{◌≡◌, ℕ, List, Bool, arith, bytes_eq, ◌↔◌, IsTrue}
use Rattle.std.proofs.lemmas.Slice.Eq.{bytes_eq-Decides}

pub same_test : (r : Bool) (x y : List ℕ) → (IsTrue r ↔ (x ≡ y)) → r ≡ bytes_eq x y
same_test r x y h = grind (arith, bytes_eq-Decides x y, h)
