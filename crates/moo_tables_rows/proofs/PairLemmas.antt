-- Two columns as a key, of which the table has an index.
use Rattle.moo_tables_rows.{proofs.Words.{arith, ◌≡◌, List, ℤ, [], ◌∷◌, Bool, true, false, ◌&&◌, ◌||◌, None, refl, ap, ◌∙◌, Null, Int, Row, column, binary, is_true, agree, Binary, Compare, Eq, with_rowid, Chosen, Has, has_pair, first_key, plain, pair_places, same_numbers}, proofs.TextLemmas.{pair_terms}, proofs.StepLemmas.{cast_null}, proofs.KeyLemmas.{pair_exact, pair_apart}, proofs.RowLemmas.{equal_number, pair_free, pair_has, picks_pair}, proofs.FindLemmas.{exactly, ArePairs}, proofs.UniqueLemmas.{AreApart}, proofs.StopPairLemmas.{left_apart, new_apart}, proofs.KindLemmas.{Kind}}

same_or_not : (a b : Bool) → ((a && (b && true)) || false) ≡ (a && b)
same_or_not a b = grind arith

pub pairs_agree : (id m n : ℤ) (tail r : Row) → (agree plain (1 ∷ 2 ∷ []) r (1 ∷ 2 ∷ []) (Int id ∷ Int m ∷ Int n ∷ tail) || false) ≡ has_pair (m, n) r
unfolding first_key
pairs_agree id m n tail r =
    same_or_not (is_true (binary (Compare Eq Binary) (column r 1) (Int m))) (is_true (binary (Compare Eq Binary) (column r 2) (Int n))) ∙ rw (equal_number (column r 1) m, equal_number (column r 2) n)

pub both_stay : (rows : List Row) → ArePairs rows → (two : ℤ × ℤ) (r : Row) → Has rows r → has_pair two r ≡ true → column r 1 ∷ column r 2 ∷ [] ≡ Int two.0 ∷ Int two.1 ∷ []
both_stay rows pairs two r in_it here = grind (arith, exactly (column r 1) two.0, exactly (column r 2) two.1, pairs.ints r in_it, here)

-- the two are the first values, and a new row gets the next number
abbrev pub pair_kind : Kind
pair_kind = record {
  Key = ℤ × ℤ;
  has = has_pair;
  same = same_numbers;
  exact = pair_exact;
  apart = pair_apart;
  place = None;
  uniques = (1 ∷ 2 ∷ []) ∷ [];
  orders = plain ∷ [];
  places = pair_places;
  terms = pair_terms;
  given = λ two. Int two.0 ∷ Int two.1 ∷ [];
  counted = λ two. refl;
  picks = picks_pair;
  number = λ id two. id;
  columns = λ two. Int two.0 ∷ Int two.1 ∷ [];
  itself = λ id two tail. pair_has two tail id;
  agrees = λ id two. pairs_agree id two.0 two.1;
  first = λ two. Null;
  fresh = λ rows two tail. ap (λ v. with_rowid Chosen rows (v ∷ tail)) cast_null;
  free = pair_free;
  Told = ArePairs;
  one = λ rows keyed pairs. pairs.one;
  named = λ two r id here is. refl;
  kept = λ r. column r 1 ∷ column r 2 ∷ [];
  stays = both_stay;
  Apart = AreApart;
  left_apart = left_apart;
  new_apart = new_apart;
}
