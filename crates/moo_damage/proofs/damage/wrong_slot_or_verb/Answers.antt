use Rattle.moo_damage.{proofs.Words.{arith, None, refl, subst, Maps, StrangeSlot, MissingSlot, ClearDefiner, StrangeVerb, is_strange, IsLeastBad, InRows, IsLeast, NoneBefore, IsFirstMissing, ◌≡◌, true, false}, proofs.InTurn.{none_more}, proofs.Searched.{of_slot, of_verb, strange_least, missing_least, clear_least, verb_least, told}}
use Rattle.moo_damage.proofs.damage.wrong_slot_or_verb.Goals as goal

slots_owed : (m : Maps) → NoneBefore (InRows m) 10 → IsLeastBad m.slots (λ k r. is_strange m k ≡ false) (λ k r. is_strange m k ≡ true) None → IsFirstMissing m None → NoneBefore (InRows m) 12
slots_owed m before strange missing = none_more (InRows m) MissingSlot (none_more (InRows m) StrangeSlot before (strange_least m None strange)) (missing_least m None missing)

pub returns-in-Some-first_clear-clause-first : goal.returns-in-Some-first_clear-clause-first
returns-in-Some-first_clear-clause-first g c =
    let m = (g.R.Rows.held c.args.rows.now).maps in
    told m ClearDefiner _ _ _ refl c.slot_key-in-Some-first_clear.ensures
    (slots_owed m c.requires.before c.in_default.ensures c.in_default-missing_slot.ensures)
    (subst (λ o. IsLeast (InRows m ClearDefiner) (of_slot o)) c.in-Some-first_clear.is (clear_least m c.first_clear.result c.first_clear.ensures))

pub returns-in-Some-first_strange_verb-clause-first : goal.returns-in-Some-first_strange_verb-clause-first
returns-in-Some-first_strange_verb-clause-first g c =
    let m = (g.R.Rows.held c.args.rows.now).maps in
    told m StrangeVerb _ _ _ refl c.verb_key.ensures
    (none_more (InRows m) ClearDefiner (slots_owed m c.requires.before c.in_default.ensures c.in_default-missing_slot.ensures) (clear_least m None c.in_default-first_clear.ensures))
    (subst (λ o. IsLeast (InRows m StrangeVerb) (of_verb o)) c.in-Some-first_strange_verb.is (verb_least m c.first_strange_verb.result c.first_strange_verb.ensures))

pub returns-clause-first : goal.returns-clause-first
returns-clause-first g c =
    let m = (g.R.Rows.held c.args.rows.now).maps in
    none_more (InRows m) StrangeVerb
    (none_more (InRows m) ClearDefiner (slots_owed m c.requires.before c.in_default.ensures c.in_default-missing_slot.ensures) (clear_least m None c.in_default-first_clear.ensures))
    (verb_least m None c.in_default-first_strange_verb.ensures)
