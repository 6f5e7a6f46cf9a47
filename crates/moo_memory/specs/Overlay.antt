-- A finite map with changes over it.
use Rattle.std.specs.{Prelude.{◌≡◌, ◌||◌, List, [], ◌∷◌, Option, None, Some, is_some, unwrap_or, IsTrue}, declared.cmp.Ordering.{Ordering}}
use Rattle.std.specs.{declared.cmp.Ordering.TheVariants.{Less}, FinMap.{FinMap, get, insert, remove, entries}}
use Rattle.moo_rows.specs.Ordered.{IsPast}

module _ {K X : Type 0} {cmp : K → K → Ordering} where
  -- the map with one key changed
  abbrev pub changed : FinMap cmp X → K → Option X → FinMap cmp X
  changed base key None = remove base key
  changed base key (Some row) = insert base key row

  -- the map with the keys of a list changed, from the last to the first
  abbrev pub changed_all : FinMap cmp X → List (K × Option X) → FinMap cmp X
  changed_all base [] = base
  changed_all base (e ∷ es) = changed (changed_all base es) e.0 e.1

  -- the base, with its new row or `None` at each changed key
  abbrev pub overlaid : FinMap cmp X → FinMap cmp (Option X) → FinMap cmp X
  overlaid base changes = changed_all base (entries changes)

  -- the row of a key, in the changes or else in the base
  abbrev pub row_over : (K → Option X) → FinMap cmp (Option X) → K → Option X
  row_over row_at changes key = unwrap_or (get changes key) (row_at key)

  -- the least key past `from` that is in the base or changed, or `None` if there is no such key
  abbrev pub IsNextOfEither : (K → Option X) → FinMap cmp (Option X) → Option K → Option K → Type 0
  IsNextOfEither row_at changes from None = (q : K) → IsPast cmp from q → (row_at q ≡ None) × (get changes q ≡ None)
  IsNextOfEither row_at changes from (Some key) =
      IsTrue (is_some (row_at key) || is_some (get changes key)) × IsPast cmp from key
      × ((q : K) → IsPast cmp from q → cmp q key ≡ Less → (row_at q ≡ None) × (get changes q ≡ None))
