-- Rows that two columns tell stay apart, whichever of them go, and whichever row with another key comes.
use Rattle.moo_tables_rows.{proofs.Words.{◌≡◌, ℤ, List, [], ◌∷◌, true, not, IsTrue, refl, Int, Row, rowid, has_rowid, put_row, without_all, without_rowid, is_int, Has, all_has, has_filtered, has_pair, AreKeyed}, proofs.RowLemmas.{pair_has}, proofs.FindLemmas.{ArePairs}, proofs.UniqueLemmas.{AreApart, IsNumbered, are_apart, put_apart}}

-- what is left was there
pub left_of : (ids : List ℤ) (rows : List Row) (r : Row) → Has (without_all rows ids) r → Has rows r
left_of [] rows r h = h
left_of (id ∷ ids) rows r h = (has_filtered (λ r. not (has_rowid id r)) rows r (left_of ids (without_rowid id rows) r h)).0

module _ (rows : List Row) (keyed : AreKeyed rows) (pairs : ArePairs rows) (ids : List ℤ) where
  abbrev left : List Row
  left = without_all rows ids

  still_numbered : (r : Row) → Has left r → IsNumbered r
  still_numbered r in_it = let there = left_of ids rows r in_it in (all_has (λ r. IsTrue (is_int (rowid r))) rows r keyed.1 there, pairs.ints r there)

  still_one : (key : ℤ × ℤ) (r s : Row) → Has left r → Has left s → has_pair key r ≡ true → has_pair key s ≡ true → r ≡ s
  still_one key r s p q = pairs.one key r s (left_of ids rows r p) (left_of ids rows s q)

  pub left_apart : AreApart left
  left_apart = are_apart left still_numbered still_one

  pub new_apart : (id : ℤ) (key : ℤ × ℤ) (tail : Row) → ((r : Row) → Has left r → has_pair key r ≡ true → ⊥) → AreApart (put_row (Int id ∷ Int key.0 ∷ Int key.1 ∷ tail) left)
  new_apart id key tail none = put_apart left still_numbered still_one key none (Int id ∷ Int key.0 ∷ Int key.1 ∷ tail) (refl, (refl, refl)) (pair_has key tail id)
