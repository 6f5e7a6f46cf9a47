-- The row's number as its key.
use Rattle.moo_tables_rows.{proofs.Words.{arith, ◌≡◌, ℤ, [], ◌∷◌, Bool, true, false, ◌&&◌, ◌||◌, Some, refl, ap, ◌∙◌, Null, Int, Row, binary, is_true, agree, Binary, Compare, Eq, with_rowid, Chosen, rowid, has_rowid, first_key, plain, number_places, same_number, ⊤}, proofs.TextLemmas.{number_terms}, proofs.StepLemmas.{cast_int}, proofs.KeyLemmas.{number_exact, number_apart, number_one, ties_one, ties_itself}, proofs.RowLemmas.{equal_number, number_free, picks_given}, proofs.KindLemmas.{Kind}}

same_or_not : (b : Bool) → ((b && true) || false) ≡ b
same_or_not b = grind arith

pub numbers_agree : (n : ℤ) (tail r : Row) → (agree plain (0 ∷ []) r (0 ∷ []) (Int n ∷ tail) || false) ≡ has_rowid n r
unfolding first_key
numbers_agree n tail r = same_or_not (is_true (binary (Compare Eq Binary) (rowid r) (Int n))) ∙ equal_number (rowid r) n

-- the number is the first value, and the column is kept empty
abbrev pub number_kind : Kind
number_kind = record {
  Key = ℤ;
  has = has_rowid;
  same = same_number;
  exact = number_exact;
  apart = number_apart;
  place = Some 0;
  uniques = [];
  orders = [];
  places = number_places;
  terms = number_terms;
  given = λ n. Int n ∷ [];
  counted = λ n. refl;
  picks = λ n tail. picks_given 0 (Int n ∷ tail) n refl;
  number = λ id n. n;
  columns = λ n. Null ∷ [];
  itself = λ id n tail. ties_itself (Int n) n refl;
  agrees = λ id n tail. numbers_agree n (Null ∷ tail);
  first = λ n. Int n;
  fresh = λ rows n tail. ap (λ v. with_rowid Chosen rows (v ∷ tail)) (cast_int n);
  free = λ n rows keyed. number_free n rows;
  Told = λ rows. ⊤;
  one = λ rows keyed told n. number_one n rows keyed;
  named = λ n r id here is. ties_one (rowid r) n id here (ties_itself (rowid r) id is);
  kept = λ r. Null ∷ [];
  stays = λ rows told n r in_it here. refl;
  Apart = λ rows. ⊤;
  left_apart = λ rows keyed told ids. tt;
  new_apart = λ rows keyed told ids id n tail none. tt;
}
