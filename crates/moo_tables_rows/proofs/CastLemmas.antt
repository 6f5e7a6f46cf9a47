-- Cells of the kinds of their columns are stored as they are.
use Rattle.moo_tables_rows.{proofs.Words.{arith, ◌≡◌, Bool, true, false, ◌&&◌, List, [], ◌∷◌, refl, Value, Row, cast, cast_all, Column}, proofs.StepLemmas.{cast_null, cast_int}}
use Rattle.sqlite.{specs.Kind.{Kind}, specs.Kind.TheVariants.{Integer, Text}}
use Rattle.sqlite.specs.declared.types.Value.TheVariants as value

-- a whole number or nothing in a column of numbers, a text in a column of texts
abbrev pub fits : Kind → Value → Bool
fits Integer value.Null = true
fits Integer (value.Int n) = true
fits Text (value.Text t) = true
fits kind v = false

abbrev pub fit : List Column → Row → Bool
fit [] [] = true
fit (c ∷ cs) (v ∷ vs) = fits c.kind v && fit cs vs
fit [] (v ∷ vs) = false
fit (c ∷ cs) [] = false

kept_one : (kind : Kind) (v : Value) → fits kind v ≡ true → cast kind v ≡ v
kept_one kind v h = grind (arith, cast_null, cast_int, h)

pub kept_all : (columns : List Column) (row : Row) → fit columns row ≡ true → cast_all columns row ≡ row
kept_all [] [] h = refl
kept_all (c ∷ cs) (v ∷ vs) h = grind (arith, h, kept_one c.kind v, kept_all cs vs)
kept_all columns row h = cc
