use Rattle.moo_value.proofs.Words.{◌≡◌, Bool, Ok, Err, Option, Some, arith, ℕ, List, [], ◌∷◌, map, refl, sym, ap, subst, ◌∙◌, rules, str_eq_ignore_ascii_case, YieldsList-from_slice, tests, Code, NotALiteral, name, named}
use Rattle.moo_value.proofs.code.Code.from_word.Goals as goal
use Rattle.std.{proofs.Common.{None, option_map, Bor}, specs.List.{find}, specs.Option.{MatchOption}, proofs.lemmas.Iterator.Search.{find_from_yields_List}}

abbrev Named : Type 0
Named = Code × Bor (List ℕ)

abbrev AreNamed : List Named → Type 0
AreNamed [] = Unit {0}
AreNamed (e ∷ es) = (e.1.now ≡ name e.0) × AreNamed es

abbrev has_name : List ℕ → Named → Bool
has_name w e = str_eq_ignore_ascii_case w e.1.now

-- the first that has the name
first : (w : List ℕ) (es : List Named) → AreNamed es → MatchOption (find (has_name w) es) (named (map (λ e. e.0) es) w ≡ Err NotALiteral) (λ e. named (map (λ e. e.0) es) w ≡ Ok e.0)
first w [] h = refl
first w (e ∷ es) h = grind (arith, first w es h.1)

none_found : (w : List ℕ) (es : List Named) (r : Option (Bor Named)) → option_map (λ x. x.now) r ≡ find (has_name w) es → AreNamed es → r ≡ None → named (map (λ e. e.0) es) w ≡ Err NotALiteral
none_found w es r found h is = grind (arith, first w es h)

one_found : (w : List ℕ) (es : List Named) (r : Option (Bor Named)) (x : Bor Named) → option_map (λ x. x.now) r ≡ find (has_name w) es → AreNamed es → r ≡ Some x → named (map (λ e. e.0) es) w ≡ Ok x.now.0
one_found w es r x found h is = grind (arith, first w es h)

pub returns-in_err-code-clause-none : goal.returns-in_err-code-clause-none
returns-in_err-code-clause-none c =
    let w = c.args.word.now in
    let names = c.iter-names.result.rest.now in
    let all = c.iter-names.ensures.rest in
    let found = find_from_yields_List (has_name w) _ _ c.find.result c.find.ensures.ran (YieldsList-from_slice names refl) (λ x b q k. search (rules, tests)) in
    let none : c.from_residual.result ≡ None = search rules in
    rw none (ap (λ es. named (map (λ (e : Named). e.0) es) w) (sym all) ∙ none_found w names c.find.result found (subst AreNamed (sym all) (refl, (refl, (refl, (refl, (refl, (refl, (refl, (refl, (refl, (refl, (refl, (refl, (refl, (refl, (refl, (refl, tt))))))))))))))))) c.in_err-code.was)

pub returns-clause-some : goal.returns-clause-some
returns-clause-some c =
    let w = c.args.word.now in
    let names = c.iter-names.result.rest.now in
    let all = c.iter-names.ensures.rest in
    let found = find_from_yields_List (has_name w) _ _ c.find.result c.find.ensures.ran (YieldsList-from_slice names refl) (λ x b q k. search (rules, tests)) in
    ap (λ es. named (map (λ (e : Named). e.0) es) w) (sym all) ∙ one_found w names c.find.result c.in_ok-code.field-0 found (subst AreNamed (sym all) (refl, (refl, (refl, (refl, (refl, (refl, (refl, (refl, (refl, (refl, (refl, (refl, (refl, (refl, (refl, (refl, tt))))))))))))))))) c.in_ok-code.was
