use Rattle.moo_load.{proofs.Words.{rules, ◌≡◌, ◌≢◌, ◌∙◌, from_err, print, list_of, entry_values, IfErr-weaker, IfOk-weaker, SlotIsNext, slot_line_put}, specs.declared.line.Word.TheVariants.{Slot}, proofs.Taken.{word_of, line_is, split_is, no_slot_put, of_values, of_line}}
use Rattle.moo_load.proofs.reading.take_slot_line.Goals as goal

pub returns-in_err-word-clause-err : goal.returns-in_err-word-clause-err
returns-in_err-word-clause-err c = from_err c.from_residual.result c.from_residual.ensures.1 (λ fault own unreadable number e within next same. c.in_err-word.ensures.err (word_of e) (print (list_of (entry_values e))) (line_is c.args.line.now e same))

pub returns-else-eq-clause-put : goal.returns-else-eq-clause-put
returns-else-eq-clause-put c number e within next same =
    let other : c.in_ok-word.word ≢ Slot = search rules in
    no_slot_put (c.args.last, c.args.rows.now.maps) number e (λ slot. other ((split_is c.args.line.now c.in_ok-word.literal.now c.in_ok-word.word e within c.in_ok-word.ensures.ok same).0 ∙ slot))

pub returns-in_err-values-clause-err : goal.returns-in_err-values-clause-err
returns-in_err-values-clause-err c =
    from_err c.from_residual-in_err-values.result c.from_residual-in_err-values.ensures.1 (λ fault own unreadable number e within next same.
    of_values (λ l. ⊥) c.in_ok-word.literal.now (c.in_err-values.ensures.err (λ none. unreadable (own ∙ none))) e (split_is c.args.line.now c.in_ok-word.literal.now c.in_ok-word.word e within c.in_ok-word.ensures.ok same).1)

pub returns-in_ok-values-clause-put : goal.returns-in_ok-values-clause-put
returns-in_ok-values-clause-put c =
    IfOk-weaker c.take_slot.result _ _ (λ last put number e within next same.
    of_line c.args.line.now c.in_ok-word.literal.now c.in_ok-word.word Slot c.in_ok-values.values.items c.deref.result.now
    (λ e. SlotIsNext number e (c.args.last, c.args.rows.now.maps) → (last, c.take_slot.new.rows.maps)
    ≡ slot_line_put number e (c.args.last, c.args.rows.now.maps)) c.in_ok-word.ensures.ok (search rules) c.deref.ensures.value c.in_ok-values.ensures.ok
    (λ x p k within is next. let o = put x p k (number p) is next in λ i. (o.0 i, (o.1 i).maps)) e within same next) c.take_slot.ensures.put

pub returns-in_ok-values-clause-err : goal.returns-in_ok-values-clause-err
returns-in_ok-values-clause-err c =
    IfErr-weaker c.take_slot.result _ _ (λ fault none unreadable number e within next same.
    of_line c.args.line.now c.in_ok-word.literal.now c.in_ok-word.word Slot c.in_ok-values.values.items c.deref.result.now
    (λ e. SlotIsNext number e (c.args.last, c.args.rows.now.maps) → ⊥) c.in_ok-word.ensures.ok
    (search rules) c.deref.ensures.value c.in_ok-values.ensures.ok (λ x p k within is next. none unreadable x p k (number p) within.row next is) e within
    same next) c.take_slot.ensures.err
