-- How a kind of damage, and the row at which it is found, are written.
use Rattle.std.specs.{Prelude.{ℕ, List, ◌++◌, codes}, Fmt.{signed_decimal}}
use Rattle.moo_damage.specs.declared.kind.Kind.{Kind}
use Rattle.moo_damage.specs.declared.kind.Kind.TheVariants.{BadHead, BadCell, PastHead, NoParent, ParentLoop, NoPlace, PlaceLoop, NoDefiner}
use Rattle.moo_damage.specs.declared.kind.Kind.TheVariants.{DoubleName, StrangeSlot, MissingSlot, ClearDefiner, StrangeVerb, Mismatch}
use Rattle.moo_damage.specs.{declared.kind.Key.{Key}, declared.kind.Key.TheVariants.{Head, Object, Prop, Slot, Verb, Petition}}

-- the word of a kind of damage
abbrev pub kind_text : Kind → List ℕ
kind_text BadHead = codes "bad-head"
kind_text BadCell = codes "bad-cell"
kind_text PastHead = codes "past-head"
kind_text NoParent = codes "no-parent"
kind_text ParentLoop = codes "parent-loop"
kind_text NoPlace = codes "no-place"
kind_text PlaceLoop = codes "place-loop"
kind_text NoDefiner = codes "no-definer"
kind_text DoubleName = codes "double-name"
kind_text StrangeSlot = codes "strange-slot"
kind_text MissingSlot = codes "missing-slot"
kind_text ClearDefiner = codes "clear-definer"
kind_text StrangeVerb = codes "strange-verb"
kind_text Mismatch = codes "mismatch"

-- a key in writing: `head`, `#3`, `p7` for a property, `#3 p7` for a slot, `#3 v7` for a verb, `r7` for a petition
abbrev pub key_text : Key → List ℕ
key_text Head = codes "head"
key_text (Object n) = codes "#" ++ signed_decimal n
key_text (Prop n) = codes "p" ++ signed_decimal n
key_text (Slot n p) = codes "#" ++ (signed_decimal n ++ (codes " p" ++ signed_decimal p))
key_text (Verb n v) = codes "#" ++ (signed_decimal n ++ (codes " v" ++ signed_decimal v))
key_text (Petition n) = codes "r" ++ signed_decimal n
