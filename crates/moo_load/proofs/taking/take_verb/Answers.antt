use Rattle.moo_load.{proofs.Words.{◌≡◌, ◌<◌, from_err, ap, sym, subst, ◌∙◌, arith, AreRead, Head, verb_taken}, proofs.Within.{verb_read, verb_set}, proofs.One.Values.{one_verb}}
use Rattle.moo_load.proofs.taking.take_verb.Goals as goal

pub returns-clause-read : goal.returns-clause-read
returns-clause-read c =
    let own : c.head-head.result.next_verb ≡ c.args.rows.now.maps.head.next_verb = ap (λ (h : Head). h.next_verb) c.head-head.ensures in
    let left : c.args.rows.now.maps.head.next_verb < 4294967295 = omega (arith, own, c.requires.within.next_verb.1) in
    subst AreRead (sym (verb_set c.args.rows.now c.put_verb.new.self c.set_head.new.self c.head-head.result c.head-head.ensures c.in_ok-object.object c.in_ok-object.row c.in_ok-put_verb.ensures.ok c.set_head.ensures)) (verb_read c.args.rows.now.maps c.requires c.in_ok-object.object c.in_ok-object.row left c.in_ok-object.ensures.fits)

pub returns-clause-put : goal.returns-clause-put
returns-clause-put c x row is =
    let o = one_verb c.in_ok-object.object x c.in_ok-object.row row (sym c.in_ok-object.ensures.shown ∙ is) in
    verb_set c.args.rows.now c.put_verb.new.self c.set_head.new.self c.head-head.result c.head-head.ensures c.in_ok-object.object c.in_ok-object.row c.in_ok-put_verb.ensures.ok c.set_head.ensures
    ∙ (λ i. verb_taken c.args.rows.now.maps (o.0 i) (o.1 i))

pub returns-in_err-object-clause-err : goal.returns-in_err-object-clause-err
returns-in_err-object-clause-err c = from_err c.from_residual.result c.from_residual.ensures.1 (λ fault own unreadable left x row fitting. c.in_err-object.ensures.err (λ none. unreadable (own ∙ none)) x row fitting)
