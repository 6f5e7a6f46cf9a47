-- Rows found by their keys, after a row is put in place of those with its key, and after they are taken out.
use Rattle.moo_tables_rows.proofs.Words.{◌≡◌, inl, inr, ℤ, List, [], ◌∷◌, filter, find, map, option_map, Option, Some, None, Bool, true, false, not, ◌||◌, cond, refl, sym, ap, subst, ◌∙◌, arith, true≢false, IsTrue, list_any, is_eq, int_cmp, match_ordering, Ordering, Less, Equal, not-true, tied_itself, tied_back, Value, Int, Row, column, value_cmp, rowid, has_rowid, put_row, without_rowid, IsTable, id_in, without_all, is_int, Has, ids_of, all_has, some_has, some_from, has_filtered, value_cmp_total, value_cmp-Int, has_pair, found_in, with_cells, same_number, same_numbers, AreKeyed}
use Rattle.std.proofs.lemmas.Int.{ints}
use Rattle.sqlite_rules.proofs.ProbeLemmas.{has_mapped}

pub both_ways : (a b : Bool) → (a ≡ true → b ≡ true) → (b ≡ true → a ≡ true) → a ≡ b
both_ways a b to back = grind arith

pub is_false : (b : Bool) → (b ≡ true → ⊥) → b ≡ false
is_false b none = grind arith

pub tied_as_equal : (o : Ordering) → is_eq o ≡ true → o ≡ Equal
tied_as_equal Equal h = refl
tied_as_equal o h = cc

pub int_exact : (m n : ℤ) → int_cmp m n ≡ Equal → m ≡ n
int_exact m n h = grind (arith, ints, h)

pub int_value : (v : Value) → IsTrue (is_int v) → v ≡ Int (id_in v)
int_value (Int n) h = refl
int_value v h = cc

-- a number ties with itself
pub ties_itself : (v : Value) (n : ℤ) → v ≡ Int n → is_eq (value_cmp v (Int n)) ≡ true
ties_itself v n is = ap is_eq (ap (λ w. value_cmp w (Int n)) is ∙ tied_itself value_cmp_total (Int n))

-- two numbers that a value ties with are one
pub ties_one : (v : Value) (m n : ℤ) → is_eq (value_cmp v (Int m)) ≡ true → is_eq (value_cmp v (Int n)) ≡ true → m ≡ n
ties_one v m n p q = grind (arith, tied_as_equal, tied_back value_cmp_total v (Int m), value_cmp_total.congr (Int m) v (Int n), value_cmp-Int m n, int_exact m n, p, q)

pub mapped_has : {X Y : Type 0} (f : X → Y) (xs : List X) (x : X) → Has xs x → Has (map f xs) (f x)
mapped_has f [] x has = absurd has
mapped_has f (y ∷ xs) x (inl same) = inl (ap f same)
mapped_has f (y ∷ xs) x (inr later) = inr (mapped_has f xs x later)

-- ---- what a statement takes out

-- no row has the number of the one before it
pub first_apart : (x s : Row) (rows : List Row) → IsTable (x ∷ rows) → Has rows s → value_cmp (rowid x) (rowid s) ≡ Equal → ⊥
first_apart x s rows up in_it tie = let e : Less ≡ Equal = sym (all_has (λ y. value_cmp (rowid x) (rowid y) ≡ Less) rows s up.0 in_it) ∙ tie in cc

-- two rows with one number are one row
pub one_row : (rows : List Row) (r s : Row) → IsTable rows → Has rows r → Has rows s → value_cmp (rowid r) (rowid s) ≡ Equal → r ≡ s
one_row [] r s up p q tie = absurd p
one_row (x ∷ rows) r s up (inl p) (inl q) tie = p ∙ sym q
one_row (x ∷ rows) r s up (inl p) (inr q) tie = absurd (first_apart x s rows up q (subst (λ y. value_cmp (rowid y) (rowid s) ≡ Equal) p tie))
one_row (x ∷ rows) r s up (inr p) (inl q) tie = absurd (first_apart x r rows up p (subst (λ y. value_cmp (rowid y) (rowid r) ≡ Equal) q (tied_back value_cmp_total (rowid r) (rowid s) tie)))
one_row (x ∷ rows) r s up (inr p) (inr q) tie = one_row rows r s up.1 p q tie

-- two rows that both have a number tie
pub tie_by : (x y : Row) (id : ℤ) → has_rowid id x ≡ true → has_rowid id y ≡ true → value_cmp (rowid x) (rowid y) ≡ Equal
tie_by x y id here there = grind (arith, value_cmp_total.congr (rowid x) (Int id) (rowid y), tied_as_equal, tied_back value_cmp_total (rowid y) (Int id), here, there)

-- so they are one row
pub number_one : (id : ℤ) (rows : List Row) → AreKeyed rows → (r s : Row) → Has rows r → Has rows s → has_rowid id r ≡ true → has_rowid id s ≡ true → r ≡ s
number_one id rows keyed r s p q here there = one_row rows r s keyed.0 p q (tie_by r s id here there)

filter_twice : {X : Type 0} (p q : X → Bool) (xs : List X) → filter (λ x. not (q x)) (filter (λ x. not (p x)) xs) ≡ filter (λ x. not (p x || q x)) xs
filter_twice p q [] = refl
filter_twice p q (x ∷ xs) = grind (arith, filter_twice p q xs)

taken_out : (ids : List ℤ) (rows : List Row) → without_all rows ids ≡ filter (λ r. not (list_any (λ id. has_rowid id r) ids)) rows
taken_out [] rows = sym (all_stay rows)
  where
    all_stay : (rows : List Row) → filter (λ r. not (list_any (λ id. has_rowid id r) [])) rows ≡ rows
    all_stay [] = refl
    all_stay (r ∷ rows) = ap (λ more. r ∷ more) (all_stay rows)
taken_out (id ∷ ids) rows = taken_out ids (without_rowid id rows) ∙ filter_twice (has_rowid id) (λ r. list_any (λ id. has_rowid id r) ids) rows

pub filter_same : {X : Type 0} (p q : X → Bool) (xs : List X) → ((x : X) → Has xs x → p x ≡ q x) → filter p xs ≡ filter q xs
filter_same p q [] same = refl
filter_same p q (x ∷ xs) same = rw (same x (inl refl)) (ap (λ more. cond (q x) (x ∷ more) more) (filter_same p q xs (λ y has. same y (inr has))))

-- where the numbers found are those of the rows that the test holds of, these go and no other
pub removed : (test : Row → Bool) (rows found : List Row) → AreKeyed rows
    → ((x : Row) → Has found x → (r : Row) × Has rows r × (test r ≡ true) × (x ≡ rowid r ∷ []))
    → ((r : Row) → Has rows r → test r ≡ true → Has found (rowid r ∷ []))
    → without_all rows (ids_of found) ≡ filter (λ r. not (test r)) rows
removed test rows found keyed sound complete =
    taken_out (ids_of found) rows ∙ filter_same _ _ rows (λ r has. ap not (both_ways _ _ (goes r has) (named r has)))
  where
    value_of : (r : Row) → Has rows r → rowid r ≡ Int (id_in (rowid r))
    value_of r has = int_value (rowid r) (all_has (λ r. IsTrue (is_int (rowid r))) rows r keyed.1 has)

    goes : (r : Row) → Has rows r → list_any (λ id. has_rowid id r) (ids_of found) ≡ true → test r ≡ true
    goes r has any =
        let id = some_has (λ id. has_rowid id r) (ids_of found) any in
        let x = has_mapped (λ r. id_in (rowid r)) found id.0 id.1 in
        let s = sound x.0 x.1 in
        let is : id.0 ≡ id_in (rowid s.0) = x.2 ∙ ap (λ y. id_in (rowid y)) s.3 in
        let tie : value_cmp (rowid r) (rowid s.0) ≡ Equal = ap (value_cmp (rowid r)) (value_of s.0 s.1 ∙ ap Int (sym is)) ∙ tied_as_equal _ id.2 in
        ap test (one_row rows r s.0 keyed.0 has s.1 tie) ∙ s.2

    named : (r : Row) → Has rows r → test r ≡ true → list_any (λ id. has_rowid id r) (ids_of found) ≡ true
    named r has passes =
        let there = mapped_has (λ r. id_in (rowid r)) found (rowid r ∷ []) (complete r has passes) in
        let tie : has_rowid (id_in (rowid r)) r ≡ true = ties_itself (rowid r) (id_in (rowid r)) (value_of r has) in
        some_from (λ id. has_rowid id r) (ids_of found) (id_in (rowid r)) there tie

-- ---- what is found then

find_kept : (test p : Row → Bool) (rows : List Row) → ((r : Row) → test r ≡ true → p r ≡ true) → find test (filter p rows) ≡ find test rows
find_kept test p [] keeps = refl
find_kept test p (r ∷ rows) keeps = grind (arith, keeps r, find_kept test p rows keeps)

pub find_none : (test : Row → Bool) (rows : List Row) → ((r : Row) → Has rows r → test r ≡ false) → find test rows ≡ None
find_none test [] none = refl
find_none test (r ∷ rows) none = rw (none r (inl refl)) (find_none test rows (λ s has. none s (inr has)))

abbrev Puts : Ordering → Row → Row → List Row → List Row
Puts o new r rows = match_ordering o (r ∷ put_row new rows) (new ∷ rows) (new ∷ r ∷ rows)

find_past : (test : Row → Bool) (new : Row) (rows : List Row) → test new ≡ false → ((r : Row) → Has rows r → value_cmp (rowid r) (rowid new) ≡ Equal → ⊥) → find test (put_row new rows) ≡ find test rows
find_past test new [] other fresh = rw other refl
find_past test new (r ∷ rows) other fresh = grind (arith, other, fresh r (inl refl), find_past test new rows other (λ s has. fresh s (inr has)))

find_put : (test : Row → Bool) (new : Row) (rows : List Row) → test new ≡ true → ((r : Row) → Has rows r → test r ≡ false) → find test (put_row new rows) ≡ Some new
find_put test new [] here none = rw here refl
find_put test new (r ∷ rows) here none = grind (arith, here, none r (inl refl), find_put test new rows here (λ s has. none s (inr has)))

module _ {K : Type 0} (same : K → K → Bool) (has : K → Row → Bool) (shown : Row → Row) (exact : (k key : K) → same k key ≡ true → k ≡ key) (apart : (k key : K) (r : Row) → has k r ≡ true → has key r ≡ true → same k key ≡ true) where
  not_both : (k key : K) (r : Row) → same k key ≡ false → has k r ≡ true → has key r ≡ false
  not_both k key r other here = is_false _ (λ both. true≢false (sym (apart k key r here both) ∙ other))

  -- what is found at a key and what is found beside it tell the whole table
  at_key : (key : K) (rows after : List Row) (cells : Option Row) → found_in has shown after key ≡ cells → ((k : K) → same k key ≡ false → find (has k) after ≡ find (has k) rows) → (k : K) → found_in has shown after k ≡ with_cells same key cells (found_in has shown rows) k
  at_key key rows after cells here beside k = grind (arith, here, exact k key, beside k)

  gone : (key : K) (rows : List Row) (r : Row) → Has (filter (λ r. not (has key r)) rows) r → has key r ≡ false
  gone key rows r in_it = not-true _ (has_filtered (λ r. not (has key r)) rows r in_it).1

  others : (key : K) (rows : List Row) (k : K) → same k key ≡ false → find (has k) (filter (λ r. not (has key r)) rows) ≡ find (has k) rows
  others key rows k other = find_kept (has k) (λ r. not (has key r)) rows (λ r there. ap not (not_both k key r other there))

  pub after_put : (key : K) (new : Row) (rows : List Row) → has key new ≡ true → ((r : Row) → Has (filter (λ r. not (has key r)) rows) r → value_cmp (rowid r) (rowid new) ≡ Equal → ⊥)
      → (k : K) → found_in has shown (put_row new (filter (λ r. not (has key r)) rows)) k ≡ with_cells same key (Some (shown new)) (found_in has shown rows) k
  after_put key new rows here fresh =
      at_key key rows (put_row new (filter (λ r. not (has key r)) rows)) (Some (shown new)) (ap (option_map shown) (find_put (has key) new (filter (λ r. not (has key r)) rows) here (gone key rows)))
      (λ k other. find_past (has k) new (filter (λ r. not (has key r)) rows) (is_false _ (λ both. true≢false (sym (apart k key new both here) ∙ other))) fresh ∙ others key rows k other)

  pub after_removal : (key : K) (rows : List Row) → (k : K) → found_in has shown (filter (λ r. not (has key r)) rows) k ≡ with_cells same key None (found_in has shown rows) k
  after_removal key rows = at_key key rows (filter (λ r. not (has key r)) rows) None (ap (option_map shown) (find_none (has key) (filter (λ r. not (has key r)) rows) (gone key rows))) (others key rows)

  -- to put what a key has changes nothing
  pub after_same : (key : K) (rows : List Row) → (k : K) → found_in has shown rows k ≡ with_cells same key (found_in has shown rows key) (found_in has shown rows) k
  after_same key rows = at_key key rows rows (found_in has shown rows key) refl (λ k other. refl)

-- ---- the two kinds of key

pub number_exact : (k key : ℤ) → same_number k key ≡ true → k ≡ key
number_exact k key h = int_exact k key (tied_as_equal _ h)

pub number_itself : (k : ℤ) → same_number k k ≡ true
number_itself k = ap is_eq (sym (value_cmp-Int k k) ∙ tied_itself value_cmp_total (Int k))

pub number_apart : (k key : ℤ) (r : Row) → has_rowid k r ≡ true → has_rowid key r ≡ true → same_number k key ≡ true
number_apart k key r p q = subst (λ n. same_number k n ≡ true) (ties_one (rowid r) k key p q) (number_itself k)

pub pair_exact : (k key : ℤ × ℤ) → same_numbers k key ≡ true → k ≡ key
pair_exact k key h = grind (arith, number_exact k.0 key.0, number_exact k.1 key.1, h)

pub pair_apart : (k key : ℤ × ℤ) (r : Row) → has_pair k r ≡ true → has_pair key r ≡ true → same_numbers k key ≡ true
pair_apart k key r p q = grind (arith, ties_one (column r 1) k.0 key.0, ties_one (column r 2) k.1 key.1, number_itself k.0, number_itself k.1, p, q)
