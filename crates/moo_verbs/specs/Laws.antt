-- What the definitions promise, in the manual's words.
use Rattle.std.specs.{Prelude.{◌≡◌, ◌⊎◌, false, [], ◌∷◌, ◌++◌, map, Some}, Bool.{Decides}, List.{list_any}}
use Rattle.moo_rows.specs.{declared.row.Preposition.TheVariants.{Set}, declared.row.PrepositionSet.{PrepositionSet}}
use Rattle.moo_world.specs.{Objects.{Name, folded}, Matching.{is_star, matches}, VerbReading.{phrases, prep_of}}

-- each phrase of a set is read as that set, so no phrase is in two sets
abbrev pub PhrasesAreRead : Type 0
PhrasesAreRead = (set : PrepositionSet) → map prep_of (phrases set) ≡ map (λ phrase. Some (Set set)) (phrases set)

-- the word begins with the text before the star, and its rest begins the text after the star, or is anything if that text is empty
abbrev pub MatchesStar : Name → Name → Name → Type 0
MatchesStar front behind word =
    (rest : Name) × (folded word ≡ folded front ++ rest) × ((behind ≡ []) ⊎ ((tail : Name) × (folded behind ≡ rest ++ tail)))

-- a name with a star matches a word exactly as `MatchesStar` says of its first star
abbrev pub StarsMatch : Type 0
StarsMatch = (front behind word : Name) → list_any is_star front ≡ false →
    Decides (matches (front ++ 42 ∷ behind) word) (MatchesStar front behind word)

-- a name without a star matches itself alone
abbrev pub NamesMatch : Type 0
NamesMatch = (name word : Name) → list_any is_star name ≡ false → Decides (matches name word) (folded name ≡ folded word)
