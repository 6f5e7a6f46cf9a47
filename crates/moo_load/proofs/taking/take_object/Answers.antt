use Rattle.moo_load.{proofs.Words.{sym, subst, ◌∙◌, Held, AreRead, with_object}, proofs.Within.{object_read}, proofs.One.Values.{one_object}}
use Rattle.moo_load.proofs.taking.take_object.Goals as goal

pub returns-clause-read : goal.returns-clause-read
returns-clause-read c = subst (λ (h : Held). AreRead h.maps) (sym c.in_ok-put_object.ensures.ok) (object_read c.args.rows.now.maps c.requires c.in_ok-number.number c.in_ok-number.row c.in_ok-number.ensures.fits)

pub returns-clause-put : goal.returns-clause-put
returns-clause-put c x row is =
    let o = one_object c.in_ok-number.number x c.in_ok-number.row row (sym c.in_ok-number.ensures.shown ∙ is) in
    c.in_ok-put_object.ensures.ok ∙ (λ i. with_object c.args.rows.now (o.0 i) (o.1 i))
