use Rattle.moo_load.{proofs.Words.{rules, ◌≡◌, ◌≢◌, ℕ, List, [], ◌∷◌, ◌++◌, Result, Value, sym, ap, ◌∙◌, from_err, print, Held, list_of, Object, PropertyWord, Verb, Petition, entry_values, refl, IfErr-weaker, NumberIsLeft, entry_taken, on_ok_weaker, ArePrinted, Entry, EntryFits, Maps, entry_text, word_text}, specs.declared.fault.LineFault.{LineFault}, specs.declared.fault.LineFault.TheVariants.{OutOfMemory}, specs.declared.line.Word.{Word}, specs.declared.line.Word.TheVariants.{Slot}, proofs.Taken.{EachOf, word_of, line_is, split_is, of_values, of_word, of_line}}
use Rattle.std.specs.Prelude.{IfErr, OnOk}
use Rattle.moo_load.proofs.reading.take_line.Goals as goal

-- what was read of a line, put as the entry of the line, and not refused as its line
module _ (line literal : List ℕ) (word : Word) (values : List Value) (split : line ≡ word_text word ++ 32 ∷ literal) (read : (v : Value) (vs : List Value) → ArePrinted (v ∷ vs) literal → values ≡ v ∷ vs) (old new : Maps) where
  put_as : {T P : Type 0} (r : Result T LineFault) (own : Word) (given : List Value) → word ≡ own → given ≡ values → (P → EachOf own (λ e. EntryFits e → given ≡ entry_values e → new ≡ entry_taken e old)) → OnOk r P → OnOk r ((e : Entry) → EntryFits e → line ++ 10 ∷ [] ≡ entry_text e → new ≡ entry_taken e old)
  put_as r own given is plain each = on_ok_weaker r (λ put. of_line line literal word own values given (λ e. new ≡ entry_taken e old) split is plain read (each put))

  not_refused : {T : Type 0} (Q : LineFault → Type 0) (r : Result T LineFault) (own : Word) (given : List Value) → word ≡ own → given ≡ values → ((fault : LineFault) → Q fault → fault ≢ OutOfMemory → EachOf own (λ e. EntryFits e → given ≡ entry_values e → NumberIsLeft e old → ⊥)) → IfErr r Q → IfErr r (λ fault. fault ≢ OutOfMemory → (e : Entry) → EntryFits e → NumberIsLeft e old → line ++ 10 ∷ [] ≢ entry_text e)
  not_refused Q r own given is plain each = IfErr-weaker r Q _ (λ fault none unreadable e within room same. of_line line literal word own values given (λ e. NumberIsLeft e old → ⊥) split is plain read (each fault none unreadable) e within same room)

pub returns-in_err-word-clause-err : goal.returns-in_err-word-clause-err
returns-in_err-word-clause-err c = from_err c.from_residual.result c.from_residual.ensures.1 (λ fault own unreadable e within room same. c.in_err-word.ensures.err (word_of e) (print (list_of (entry_values e))) (line_is c.args.line.now e same))

pub returns-then-eq-clause-put : goal.returns-then-eq-clause-put
returns-then-eq-clause-put c e within same =
    let w : c.in_ok-word.word ≡ Slot = search rules in
    of_word Slot (λ e. c.args.rows.now.maps ≡ entry_taken e c.args.rows.now.maps) (λ x p k. refl) e (sym w ∙ (split_is c.args.line.now c.in_ok-word.literal.now c.in_ok-word.word e within c.in_ok-word.ensures.ok same).0)

pub returns-in_err-values-clause-err : goal.returns-in_err-values-clause-err
returns-in_err-values-clause-err c =
    from_err c.from_residual-in_err-values.result c.from_residual-in_err-values.ensures.1 (λ fault own unreadable e within room same.
    of_values (λ l. ⊥) c.in_ok-word.literal.now (c.in_err-values.ensures.err (λ none. unreadable (own ∙ none))) e (split_is c.args.line.now c.in_ok-word.literal.now c.in_ok-word.word e within c.in_ok-word.ensures.ok same).1)

pub returns-in-Object-clause-put : goal.returns-in-Object-clause-put
returns-in-Object-clause-put c =
    put_as c.args.line.now c.in_ok-word.literal.now c.in_ok-word.word c.in_ok-values.values.items c.in_ok-word.ensures.ok c.in_ok-values.ensures.ok c.args.rows.now.maps c.take_object.new.rows.maps c.take_object.result Object c.deref.result.now (search rules) c.deref.ensures.value (λ put x row within is. ap (λ (h : Held). h.maps) (put x row is)) c.take_object.ensures.put

pub returns-in-Object-clause-err : goal.returns-in-Object-clause-err
returns-in-Object-clause-err c =
    not_refused c.args.line.now c.in_ok-word.literal.now c.in_ok-word.word c.in_ok-values.values.items c.in_ok-word.ensures.ok c.in_ok-values.ensures.ok c.args.rows.now.maps c.take_object.new.rows.maps _ c.take_object.result Object c.deref.result.now (search rules) c.deref.ensures.value (λ fault none unreadable x row within is room. none unreadable x row within.row is) c.take_object.ensures.err

pub returns-in-Property-clause-put : goal.returns-in-Property-clause-put
returns-in-Property-clause-put c =
    put_as c.args.line.now c.in_ok-word.literal.now c.in_ok-word.word c.in_ok-values.values.items c.in_ok-word.ensures.ok c.in_ok-values.ensures.ok c.args.rows.now.maps c.take_property.new.rows.maps c.take_property.result PropertyWord c.deref-in-Property.result.now (search rules) c.deref-in-Property.ensures.value (λ put x n within is. put (record { definer = x; name = n }) is) c.take_property.ensures.put

pub returns-in-Property-clause-err : goal.returns-in-Property-clause-err
returns-in-Property-clause-err c =
    not_refused c.args.line.now c.in_ok-word.literal.now c.in_ok-word.word c.in_ok-values.values.items c.in_ok-word.ensures.ok c.in_ok-values.ensures.ok c.args.rows.now.maps c.take_property.new.rows.maps _ c.take_property.result PropertyWord c.deref-in-Property.result.now (search rules) c.deref-in-Property.ensures.value (λ fault none unreadable x n within is room. none unreadable room (record { definer = x; name = n }) within.row is) c.take_property.ensures.err

pub returns-in-Verb-clause-put : goal.returns-in-Verb-clause-put
returns-in-Verb-clause-put c =
    put_as c.args.line.now c.in_ok-word.literal.now c.in_ok-word.word c.in_ok-values.values.items c.in_ok-word.ensures.ok c.in_ok-values.ensures.ok c.args.rows.now.maps c.take_verb.new.rows.maps c.take_verb.result Verb c.deref-in-Verb.result.now (search rules) c.deref-in-Verb.ensures.value (λ put x v within is. put x v is) c.take_verb.ensures.put

pub returns-in-Verb-clause-err : goal.returns-in-Verb-clause-err
returns-in-Verb-clause-err c =
    not_refused c.args.line.now c.in_ok-word.literal.now c.in_ok-word.word c.in_ok-values.values.items c.in_ok-word.ensures.ok c.in_ok-values.ensures.ok c.args.rows.now.maps c.take_verb.new.rows.maps _ c.take_verb.result Verb c.deref-in-Verb.result.now (search rules) c.deref-in-Verb.ensures.value (λ fault none unreadable x v within is room. none unreadable room x v within.row is) c.take_verb.ensures.err

pub returns-in-Petition-clause-put : goal.returns-in-Petition-clause-put
returns-in-Petition-clause-put c =
    put_as c.args.line.now c.in_ok-word.literal.now c.in_ok-word.word c.in_ok-values.values.items c.in_ok-word.ensures.ok c.in_ok-values.ensures.ok c.args.rows.now.maps c.take_petition.new.rows.maps c.take_petition.result Petition c.deref-in-Petition.result.now (search rules) c.deref-in-Petition.ensures.value (λ put e within is. put e.0 e.1 is) c.take_petition.ensures.put

pub returns-in-Petition-clause-err : goal.returns-in-Petition-clause-err
returns-in-Petition-clause-err c =
    not_refused c.args.line.now c.in_ok-word.literal.now c.in_ok-word.word c.in_ok-values.values.items c.in_ok-word.ensures.ok c.in_ok-values.ensures.ok c.args.rows.now.maps c.take_petition.new.rows.maps _ c.take_petition.result Petition c.deref-in-Petition.result.now (search rules) c.deref-in-Petition.ensures.value (λ fault none unreadable e within is room. none unreadable e.0 e.1 within.row.0 within.row.1 within.row.2 is) c.take_petition.ensures.err
