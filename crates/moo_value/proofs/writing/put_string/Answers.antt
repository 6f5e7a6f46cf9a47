use Rattle.moo_value.{proofs.Words.{◌≡◌, ◌≤◌, ◌++◌, ◌∷◌, ℕ, List, [], length, take, ap, ◌∙◌, rules, append_assoc, take_all, flat_map, escape}, specs.Literal.{print_string}, proofs.Printed.{starts, starts_behind}, proofs.writing.put_string.Goals.{then-byte-eq34+in_ok-push-2, else-byte-eq34+else-byte-eq92}}
use Rattle.moo_value.proofs.writing.put_string.Goals as goal

-- the last quote ends the string
closed : (old out new s bytes : List ℕ) (i : ℕ) → out ≡ old ++ 34 ∷ flat_map escape (take i bytes) → length bytes ≤ i → bytes ≡ s → new ≡ out ++ 34 ∷ [] → new ≡ old ++ print_string s
closed old out new s bytes i before over same ended =
    ended ∙ ap (λ (t : List ℕ). t ++ 34 ∷ []) (before ∙ ap (λ (t : List ℕ). old ++ 34 ∷ flat_map escape t) (take_all i bytes over ∙ same)) ∙ append_assoc old (34 ∷ flat_map escape s) (34 ∷ [])

pub returns-in_err-push-3-clause-kept : goal.returns-in_err-push-3-clause-kept
returns-in_err-push-3-clause-kept c =
    elim c.if-byte-eq34.branch [
      | then-byte-eq34+in_ok-push-2 w ↦ (let more : c.if-byte-eq34.out.items ≡ c.loop-byte.out.items ++ 92 ∷ [] = search rules in starts_behind _ _ _ _ _ (c.in_err-push-3.ensures.items ∙ more) c.loop-byte.invariant)
      | else-byte-eq34+else-byte-eq92 w ↦ (let same : c.if-byte-eq34.out.items ≡ c.loop-byte.out.items = search rules in starts _ _ _ (c.in_err-push-3.ensures.items ∙ same ∙ c.loop-byte.invariant))
    ]

pub returns-clause-ok : goal.returns-clause-ok
returns-clause-ok c =
    closed _ _ _ c.args.text.now c.bytes-byte-items.result.now c.loop-byte.byte-index c.loop-byte.invariant c.loop-byte-test.false c.bytes-byte-items.ensures.value c.in_ok-push-4.ensures.items
