use Rattle.std.{proofs.lemmas.List.{length-map}, proofs.Common.{inl, inr, arith, length, ◌<◌, ap, ap₂, sym, subst, ◌∙◌, refl, true, ◌≡◌, map, List, []}}
use Rattle.clap.{specs.Walk.{Text}, specs.Simple.{App, is_simple, subcommand_of}, specs.Kinds.{HasKind}, specs.Faults.{fault_of, is_simple_and_free}, specs.declared.error.Error.{Error}, proofs.OnLiterals.{clap_on_literals}}
use Rattle.moo_cli.{proofs.AloneLemmas.{names_alone}, specs.Commands.{moo_app}, specs.Tasks.{mistakes}}
use Rattle.moo_cli.proofs.task.read_words.Goals as goal

moo_simple : is_simple moo_app ≡ true
unfolding clap_on_literals
moo_simple = refl

moo_free : is_simple_and_free moo_app ≡ true
unfolding clap_on_literals
moo_free = refl

-- what clap says of the kinds of error, of the program's command
no_mistake : (app : App) (words : List Text) → app ≡ moo_app → (is_simple_and_free app ≡ true → fault_of app words ≡ []) → mistakes words ≡ []
unfolding mistakes
no_mistake app words is none = ap (λ a. fault_of a words) (sym is) ∙ none (ap is_simple_and_free is ∙ moo_free)

has_mistake : (app : App) (words : List Text) (error : Error) → app ≡ moo_app → (is_simple_and_free app ≡ true → HasKind (fault_of app words) error) → HasKind (mistakes words) error
unfolding mistakes
has_mistake app words error is has = subst (λ a. HasKind (fault_of a words) error) is (has (ap is_simple_and_free is ∙ moo_free))

pub returns-in-Some-clause-task : goal.returns-in-Some-clause-task
returns-in-Some-clause-task c =
    let parsed = c.in-Ok-try_get_matches_from.ensures.matches (ap is_simple c.in-Ok.ensures ∙ moo_simple) in
    let many : 1 < length (map (λ word. word.now) c.args.words.now) =
    omega (arith, c.if-words-le1.false, length-map c.args.words.now (λ word. word.now)) in
    let none = no_mistake _ _ c.in-Ok.ensures c.in-Ok-try_get_matches_from.ensures.kinds in
    let task = c.in-Some.ensures in
    inr (many, none, task.0, ap₂ subcommand_of (sym c.in-Ok.ensures) refl ∙ sym parsed.1 ∙ task.1, task.2)

pub returns-in-Some-clause-alone : goal.returns-in-Some-clause-alone
returns-in-Some-clause-alone c =
    names_alone (map (λ word. word.now) c.args.words.now) c.in-Some.task (returns-in-Some-clause-task c)

pub returns-in-Err-try_get_matches_from-clause-refused : goal.returns-in-Err-try_get_matches_from-clause-refused
returns-in-Err-try_get_matches_from-clause-refused c = has_mistake _ _ c.in-Err-try_get_matches_from.error c.in-Ok.ensures c.in-Err-try_get_matches_from.ensures.kinds

pub returns-clause-refused : goal.returns-clause-refused
returns-clause-refused c =
    let parsed = c.in-Ok-try_get_matches_from.ensures.matches (ap is_simple c.in-Ok.ensures ∙ moo_simple) in
    let many : 1 < length (map (λ word. word.now) c.args.words.now) =
    omega (arith, c.if-words-le1.false, length-map c.args.words.now (λ word. word.now)) in (
      no_mistake _ _ c.in-Ok.ensures c.in-Ok-try_get_matches_from.ensures.kinds,
      λ task names. elim names [
        | inl few ↦ absurd (omega (arith, few.0, many))
        | inr it ↦ c.in-None.ensures task (it.2, parsed.1 ∙ ap₂ subcommand_of c.in-Ok.ensures refl ∙ it.3, it.4)
      ],
    )
