-- A row that a loop takes has what all rows of its table have.
use Rattle.moo_cells.{proofs.Words.{◌≡◌, List, [], ◌∷◌, ◌++◌, sym, subst, AllByRecursion, Row}, proofs.Table.{takes_next}}

between : (P : Row → Type 0) (front : List Row) (r : Row) (rest : List Row) → AllByRecursion P (front ++ r ∷ rest) → P r
between P [] r rest all = all.0
between P (x ∷ front) r rest all = between P front r rest all.1

pub taken : (P : Row → Type 0) {cells : List Row} (front : List Row) {left rest : List Row} {r : Row} → AllByRecursion P cells → front ++ left ≡ cells → left ≡ r ∷ rest → P r
taken P front {rest = rest} {r = r} all so step = between P front r rest (subst (AllByRecursion P) (sym (takes_next front so step)) all)
