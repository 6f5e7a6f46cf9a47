-- The laws of the definitions that functions of this crate promise.
use Rattle.std.specs.Prelude.{◌≡◌}
use Rattle.moo_rows.specs.Maps.{Maps}
use Rattle.moo_memory.specs.{declared.changes.Changes.{Changes}, Changes.{AreChanges, only_head}}

-- from some rows to others there are no two sets of changes
abbrev pub ChangesAreUnique : Type 0
ChangesAreUnique = (base new : Maps) (a b : Changes) → AreChanges base new a → AreChanges base new b → a ≡ b

-- changes lead from some rows to one set of rows at most
abbrev pub ChangesGiveTheRows : Type 0
ChangesGiveTheRows = (base new other : Maps) (changes : Changes) → AreChanges base new changes → AreChanges base other changes → new ≡ other

-- if every row is as it was, only the head is among the changes
abbrev pub UndoneIsNoChange : Type 0
UndoneIsNoChange = (base new : Maps) (changes : Changes) → new ≡ record base { head = new.head } → AreChanges base new changes
    → changes ≡ only_head new.head
