use Rattle.moo_load.{proofs.Words.{rules, ◌≡◌, false, ◌∷◌, List, ◌-◌, [], ◌++◌, length, take, drop, sym, ◌∙◌, subst, false≢true, take_rest, bytes_eq, from_err, bytes_eq-Decides, print, Value}, proofs.Listed.{next_front, refused, last_read, one_more, no_other, left_first, Left}}
use Rattle.moo_load.proofs.line.values_of.Goals as goal

pub returns-in_err-rest-clause-err : goal.returns-in_err-rest-clause-err
returns-in_err-rest-clause-err c = from_err c.from_residual.result c.from_residual.ensures.1 (λ fault own unreadable v vs are. c.in_err-rest.ensures.err _ are.printed)

pub loop-values-init : goal.loop-values-init
loop-values-init c v vs are = rw c.new-values.ensures.items (left_first v vs c.args.literal.now c.in_ok-rest.rest.now are c.in_ok-rest.ensures.ok)

pub returns-in_err-value-clause-err : goal.returns-in_err-value-clause-err
returns-in_err-value-clause-err c = from_err c.from_residual-in_err-value.result c.from_residual-in_err-value.ensures.1 (λ fault own unreadable v vs are. let l = c.loop-values.invariant v vs are in refused c.in_err-value.field-0.0 (l.next, length (print l.next)) (c.in_err-value.ensures.only l.next (length (print l.next)) (next_front l)) (own unreadable))

pub returns-then-eq-clause-ok : goal.returns-then-eq-clause-ok
returns-then-eq-clause-ok c v vs are =
    let l : Left (v ∷ vs) c.loop-values.values.items c.loop-values.rest.now = c.loop-values.invariant v vs are in
    let tail = take (length c.loop-values.rest.now - c.in_ok-value.used) (drop c.in_ok-value.used c.loop-values.rest.now) in
    let end : tail ≡ 125 ∷ [] = (bytes_eq-Decides tail (125 ∷ [])).0 (search rules) in
    let pushed : c.push.new.self.items ≡ c.loop-values.values.items ++ (c.in_ok-value.value ∷ []) = search rules in
    pushed ∙ last_read l c.in_ok-value.value c.in_ok-value.used (c.in_ok-value.ensures.only l.next (length (print l.next)) (next_front l)) (sym (take_rest c.loop-values.rest.now c.in_ok-value.used) ∙ end)

pub returns-in_err-rest-2-clause-err : goal.returns-in_err-rest-2-clause-err
returns-in_err-rest-2-clause-err c =
    let tail = take (length c.loop-values.rest.now - c.in_ok-value.used) (drop c.in_ok-value.used c.loop-values.rest.now) in
    let own : tail ≡ drop c.in_ok-value.used c.loop-values.rest.now = take_rest c.loop-values.rest.now c.in_ok-value.used in
    let no : bytes_eq tail (125 ∷ []) ≡ false = search rules in
    from_err c.from_residual-in_err-rest-2.result c.from_residual-in_err-rest-2.ensures.1 (λ fault from unreadable v vs are.
    let l = c.loop-values.invariant v vs are in
    no_other l c.in_ok-value.value c.in_ok-value.used (c.in_ok-value.ensures.only l.next (length (print l.next)) (next_front l)) (λ end. false≢true (sym no ∙ (bytes_eq-Decides tail (125 ∷ [])).1 (own ∙ end))) (λ after on. c.in_err-rest-2.ensures.err after (own ∙ on)))

pub loop-values-preserved : goal.loop-values-preserved
loop-values-preserved c v vs are =
    let l = c.loop-values.invariant v vs are in
    let pushed : c.push.new.self.items ≡ c.loop-values.values.items ++ (c.in_ok-value.value ∷ []) = search rules in
    subst (λ (done : List Value). Left (v ∷ vs) done c.in_ok-rest-2.rest.now) (sym pushed)
    (one_more l c.in_ok-value.value c.in_ok-value.used c.in_ok-rest-2.rest.now (c.in_ok-value.ensures.only l.next (length (print l.next)) (next_front l)) (sym (take_rest c.loop-values.rest.now c.in_ok-value.used) ∙ c.in_ok-rest-2.ensures.ok))
