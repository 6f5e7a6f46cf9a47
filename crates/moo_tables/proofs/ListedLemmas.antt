-- Keys that rise from row to row are in order.
use Rattle.moo_tables.{proofs.Words.{◌≡◌, ◌↔◌, ℕ, ℤ, ◌+◌, ◌<◌, ◌≤◌, suc, drop, length, get_or, List, [], ◌∷◌, Option, Some, None, Bool, true, false, ◌&&◌, IsTrue, refl, sym, ap, ◌∙◌, arith, true≢false, AllByRecursion, IsTotalOrder, is_lt, int_cmp, Ordering, Less, drop_all, and_parts, and_from, on_total, then_total, Value, Int, Row, column, value_cmp, IsAscending, is_int, value_cmp_total, value_cmp-Int, all_weaker, Tables, AreKeyed, ListsTables, ArePaired, tables_of, pair_cmp, is_above, has_two_numbers}, specs.declared.reading.CellLists.{CellLists}}
use Rattle.std.proofs.Math.Seq.{drop-cons}

less_of : (o : Ordering) → is_lt o ≡ true → o ≡ Less
less_of o h = grind arith

not_both : (a : Bool) {b : Bool} → b ≡ false → (a && b) ≡ false
not_both a low = grind (arith, low)

module _ {K : Type 0} (cmp : K → K → Ordering) (is_whole : Row → Bool) (key : Row → K) where
  pub rise : Option K → List Row → Bool
  rise last [] = true
  rise last (r ∷ rows) = (is_whole r && is_above cmp last (key r)) && rise (Some (key r)) rows

  abbrev Ascends : List Row → Type 0
  Ascends = IsAscending (λ a b. cmp (key a) (key b) ≡ Less)

  split : (all : List Row) (at : ℕ) (row : Row) → at < length all → row ≡ get_or all at row → drop at all ≡ row ∷ drop (at + 1) all
  split all at row low is = drop-cons all at row low ∙ ap (λ r. r ∷ drop (suc at) all) (sym is) ∙ ap (λ n. row ∷ drop n all) (let e : suc at ≡ at + 1 = omega arith in e)

  -- the row that was read has a whole key above the last one
  pub goes_on : (all : List Row) (last : Option K) (at : ℕ) (row : Row) (k : K) → at < length all → row ≡ get_or all at row → is_whole row ≡ true → key row ≡ k → is_above cmp last k ≡ true
      → rise None all ≡ rise last (drop at all) → rise None all ≡ rise (Some k) (drop (at + 1) all)
  unfolding rise
  goes_on all last at row k low is whole keyed above so =
      so ∙ ap (rise last) (split all at row low is) ∙ rw keyed (ap (λ b. b && rise (Some k) (drop (at + 1) all)) (and_from _ _ whole above))

  -- its key is not above the last one
  pub ends_low : (all : List Row) (last : Option K) (at : ℕ) (row : Row) (k : K) → at < length all → row ≡ get_or all at row → key row ≡ k → is_above cmp last k ≡ false → rise None all ≡ rise last (drop at all) → rise None all ≡ false
  unfolding rise
  ends_low all last at row k low is keyed below so =
      so ∙ ap (rise last) (split all at row low is) ∙ rw keyed (ap (λ b. b && rise (Some k) (drop (at + 1) all)) (not_both (is_whole row) below))

  pub reads_all : (all : List Row) (last : Option K) (at : ℕ) → length all ≤ at → rise None all ≡ rise last (drop at all) → rise None all ≡ true
  unfolding rise
  reads_all all last at past so = so ∙ ap (rise last) (drop_all at all past)

  module _ (total : IsTotalOrder cmp) where
    all_above : (k : K) (rows : List Row) → rise (Some k) rows ≡ true → AllByRecursion (λ r. cmp k (key r) ≡ Less) rows
    unfolding rise
    all_above k [] h = tt
    all_above k (r ∷ rows) h =
        let parts = and_parts _ _ h in
        let here = less_of _ (and_parts (is_whole r) _ parts.0).1 in
        (here, all_weaker (λ s. cmp (key r) (key s) ≡ Less) (λ s. cmp k (key s) ≡ Less) (λ s. total.trans k (key r) (key s) here) rows (all_above (key r) rows parts.1))

    pub ascends : (last : Option K) (rows : List Row) → rise last rows ≡ true → Ascends rows × AllByRecursion (λ r. is_whole r ≡ true) rows
    unfolding rise
    ascends last [] h = (tt, tt)
    ascends last (r ∷ rows) h =
        let parts = and_parts _ _ h in
        let more = ascends (Some (key r)) rows parts.1 in
        ((all_above (key r) rows parts.1, more.0), ((and_parts _ _ parts.0).0, more.1))

  above_each : (k : K) (rows : List Row) → AllByRecursion (λ r. cmp k (key r) ≡ Less) rows → Ascends rows → AllByRecursion (λ r. is_whole r ≡ true) rows → rise (Some k) rows ≡ true
  unfolding rise
  above_each k [] above up whole = refl
  above_each k (r ∷ rows) above up whole = and_from _ _ (and_from _ _ whole.0 (ap is_lt above.0)) (above_each (key r) rows up.0 up.1 whole.1)

  pub rises_where : (rows : List Row) → Ascends rows → AllByRecursion (λ r. is_whole r ≡ true) rows → rise None rows ≡ true
  unfolding rise
  rises_where [] up whole = refl
  rises_where (r ∷ rows) up whole = and_from _ _ (and_from _ _ whole.0 refl) (above_each (key r) rows up.0 up.1 whole.1)

-- ---- the two kinds of key

abbrev pub has_number : Row → Bool
has_number row = is_int (column row 0)

abbrev pub number_in : Row → Value
number_in row = column row 0

abbrev pub pair_in : Row → Value × Value
pair_in row = (column row 0, column row 1)

abbrev pub numbers_rise : Option Value → List Row → Bool
numbers_rise = rise value_cmp has_number number_in

abbrev pub pairs_rise : Option (Value × Value) → List Row → Bool
pairs_rise = rise pair_cmp has_two_numbers pair_in

pub numbers_keyed : (rows : List Row) → numbers_rise None rows ≡ true → IsTrue true ↔ AreKeyed rows
numbers_keyed rows h = (λ _. ascends value_cmp has_number number_in value_cmp_total None rows h, λ _. refl)

pub numbers_not_keyed : (rows : List Row) → numbers_rise None rows ≡ false → IsTrue false ↔ AreKeyed rows
numbers_not_keyed rows h = (λ no. absurd (true≢false (sym no)), λ keyed. sym h ∙ rises_where value_cmp has_number number_in rows keyed.0 keyed.1)

pair_cmp_total : IsTotalOrder pair_cmp
pair_cmp_total = then_total (on_total (λ (p : Value × Value). p.0) value_cmp_total) (on_total (λ (p : Value × Value). p.1) value_cmp_total)

pub both : (row : Row) (a b : Value) → column row 0 ≡ a → column row 1 ≡ b → pair_in row ≡ (a, b)
both row a b p q = ap (λ v. (v, column row 1)) p ∙ ap (λ v. (a, v)) q

abbrev HasInts : Row → Type 0
HasInts c = IsTrue (is_int (column c 0)) × IsTrue (is_int (column c 1))

pub pairs_keyed : (rows : List Row) → pairs_rise None rows ≡ true → IsTrue true ↔ ArePaired rows
pairs_keyed rows h =
    let it = ascends pair_cmp has_two_numbers pair_in pair_cmp_total None rows h in
    (λ _. record { whole = all_weaker (λ c. has_two_numbers c ≡ true) HasInts (λ c both. and_parts _ _ both) rows it.1; rise = it.0 }, λ _. refl)

pub pairs_not_keyed : (rows : List Row) → pairs_rise None rows ≡ false → IsTrue false ↔ ArePaired rows
pairs_not_keyed rows h = (
  λ no. absurd (true≢false (sym no)),
  λ paired. sym h ∙ rises_where pair_cmp has_two_numbers pair_in rows paired.rise (all_weaker HasInts (λ c. has_two_numbers c ≡ true) (λ c both. and_from _ _ both.0 both.1) rows paired.whole),
)

pub is_value_cmp : (m n : ℤ) → int_cmp m n ≡ value_cmp (Int m) (Int n)
is_value_cmp m n = sym (value_cmp-Int m n)

-- ---- what the queries list

-- no table has another row
pub lists_are : (lists : CellLists) (tables : Tables) → ListsTables lists tables → tables_of lists ≡ tables
lists_are lists tables it = λ i. record {
  version = it.version i;
  head = λ n. it.head.found n i;
  object = λ n. it.object.found n i;
  prop = λ n. it.prop.found n i;
  slot = λ key. it.slot.found key i;
  verb = λ key. it.verb.found key i;
  petition = λ n. it.petition.found n i;
  petition_head = λ n. it.petition_head.found n i;
}
