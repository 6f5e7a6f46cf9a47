-- What the getters of the matches read.
use Rattle.std.{proofs.Common.{◌≡◌, ◌<◌, ◌^◌, ℕ, Bool, false, List, Option, Some, None, Result, Ok, Err, Bor, option_map, refl, sym, ap, subst, ◌∙◌}, specs.Box.{box_value}, specs.Option.{option_map_or}, specs.Prelude.{codes}, specs.Str.{bytes_eq}, specs.Str.Parse.{IsNumeral, digits_value, without_leading_plus}}
use Rattle.clap.{specs.Matches.{ReadsOne, first_value, one_text}, specs.Walk.{Row, Text, rows_of, first_of}, specs.declared.parser.matches.Found.{Found}, specs.Matches.{subcommand_name_of}, specs.Simple.{subcommand_rows, subcommand_rows_of}, specs.declared.parser.matches.ArgMatches.{ArgMatches}, specs.declared.parser.matches.ArgMatches.TheViews.{out-ArgMatches, out-SubCommand}, proofs.WalkLemmas.{first_value-rows, one_text-rows}}
use Rattle.moo_cli.specs.Tasks.{HasNumber, IsAny, is_set}

pub text_given : (found : Found) (id : Text) (r : Option (Bor (List ℕ))) → option_map (λ s. s.now) r ≡ first_value found id → option_map (λ s. s.now) r ≡ first_of id (rows_of found)
text_given found id r e = e ∙ first_value-rows found id

-- a flag is given if its text is `true`
abbrev pub says_true : Option (Bor (List ℕ)) → Bool
says_true r = option_map_or (λ text. bytes_eq text (codes "true")) (option_map (λ s. s.now) r) false

pub set_given : (found : Found) (id : Text) (r : Option (Bor (List ℕ))) → option_map (λ s. s.now) r ≡ first_value found id → says_true r ≡ is_set id (rows_of found)
set_given found id r e = ap (λ o. option_map_or (λ text. bytes_eq text (codes "true")) o false) (e ∙ first_value-rows found id)

pub no_text : (found : Found) (id : Text) (r : Option (Bor (List ℕ))) → option_map (λ s. s.now) r ≡ first_value found id → r ≡ None → first_of id (rows_of found) ≡ None
no_text found id r e none = sym (first_value-rows found id) ∙ sym e ∙ ap (option_map (λ s. s.now)) none

pub some_text : (found : Found) (id : Text) (r : Option (Bor (List ℕ))) (text : Bor (List ℕ)) → option_map (λ s. s.now) r ≡ first_value found id → r ≡ Some text → first_of id (rows_of found) ≡ Some text.now
some_text found id r text e some = sym (first_value-rows found id) ∙ sym e ∙ ap (option_map (λ s. s.now)) some

-- the number of a text, if the text is one below 2^32
abbrev pub value_of : Text → ℕ
value_of text = digits_value 10 (without_leading_plus text)

abbrev pub IsSmall : Text → Type 0
IsSmall text = IsNumeral 10 (without_leading_plus text) × (value_of text < 2 ^ 32)

module _ {E : Type 0} (gives : List ℕ → Result ℕ E → Type 0)
    (reads : (text : Text) (n : ℕ) → gives text (Ok n) → IsSmall text × (n ≡ value_of text))
    (fails : (text : Text) (e : E) → gives text (Err e) → ¬ (IsSmall text)) where
  pub number_given : (found : Found) (id : Text) (r : Option ℕ) → (one_text found id ≡ None → r ≡ None)
      → ((text : List ℕ) → one_text found id ≡ Some text → ReadsOne gives text r) → IsAny (λ n. HasNumber (rows_of found) id n × (n < 2 ^ 32)) r
  number_given found id None none value = λ n has.
      let read = value has.0.0 (one_text-rows found id ∙ has.0.1) in
      fails has.0.0 read.0 read.1 (has.0.2, subst (λ m. m < 2 ^ 32) (sym has.0.3) has.1)
  number_given found id (Some n) none value = go (one_text found id) refl
    where
      go : (o : Option Text) → one_text found id ≡ o → HasNumber (rows_of found) id n × (n < 2 ^ 32)
      go None e = let bad : Some n ≡ None = none e in cc
      go (Some text) e =
          let both = reads text n (value text e) in
          ((text, sym (one_text-rows found id) ∙ e, both.0.0, sym both.1), subst (λ m. m < 2 ^ 32) (sym both.1) both.0.1)

-- a pair by its parts
pub pair_given : (o : Option (Text × List Row)) (name : Text) (rows : List Row) → Some name ≡ option_map (λ p. p.0) o → Some rows ≡ option_map (λ p. p.1) o
    → o ≡ Some (name, rows)
pair_given None name rows e f = cc
pair_given (Some (a, b)) name rows e f =
    let same_name : name ≡ a = cc in
    let same_rows : rows ≡ b = cc in
    rw (same_name, same_rows) refl

-- the name of the subcommand is that of its rows
pub name_is : (m : ArgMatches) → subcommand_name_of m ≡ option_map (λ p. p.0) (subcommand_rows_of m)
name_is m = elim ((out-ArgMatches m).subcommand) as (λ s. option_map (λ b. (out-SubCommand (box_value b)).name.now) s ≡ option_map (λ p. p.0) (subcommand_rows s)) [
  | None ↦ refl
  | Some b ↦ refl
]
