use Rattle.moo_text.{proofs.Shared.{◌≡◌, ◌<◌, ◌+◌, ◌++◌, ℕ, List, [], ◌∷◌, length, take, sym, ap, ◌∙◌, append_assoc, flat_map}, specs.Replies.{answer_line}}
use Rattle.moo_text.proofs.reply.put_answers.Goals as goal
use Rattle.std.{proofs.Common.{get_or}, proofs.lemmas.List.{take_more, flat_map_more}}
use Rattle.moo_value.{specs.Literal.{print}, specs.declared.value.Value.{Value}, proofs.Printed.{starts, starts_behind}}

-- one more answer has its line
one_more : (old out put new : List ℕ) (values : List Value) (i : ℕ) (v : Value) → i < length values → v ≡ get_or values i v → out ≡ old ++ flat_map answer_line (take i values)
    → put ≡ out ++ print v → new ≡ put ++ 10 ∷ [] → new ≡ old ++ flat_map answer_line (take (i + 1) values)
one_more old out put new values i v less is before printed ended =
    ended ∙ ap (λ (t : List ℕ). t ++ 10 ∷ []) printed ∙ append_assoc out (print v) (10 ∷ []) ∙ ap (λ (t : List ℕ). t ++ answer_line v) before
    ∙ flat_map_more answer_line old (take i values) v
    ∙ ap (λ (w : Value). old ++ flat_map answer_line (take i values ++ w ∷ [])) is
    ∙ ap (λ (vs : List Value). old ++ flat_map answer_line vs) (sym (take_more values i v less))

pub returns-in_err-print_literal-clause-kept : goal.returns-in_err-print_literal-clause-kept
returns-in_err-print_literal-clause-kept c = starts _ _ _ (c.in_err-print_literal.ensures.err ∙ c.loop-value.invariant)

pub returns-in_err-push-clause-kept : goal.returns-in_err-push-clause-kept
returns-in_err-push-clause-kept c = starts_behind _ _ _ _ _ (c.in_err-push.ensures.items ∙ c.in_ok-print_literal.ensures.ok) c.loop-value.invariant

pub loop-value-preserved : goal.loop-value-preserved
loop-value-preserved c =
    one_more _ _ _ _ c.args.values.now c.loop-value.value-index c.value-item.result c.loop-value-test.true c.value-item.is
    c.loop-value.invariant c.in_ok-print_literal.ensures.ok c.in_ok-push.ensures.items
