use Rattle.moo_load.{proofs.Words.{sym, subst, ◌∙◌, arith, AreRead, petition_taken}, proofs.Within.{petition_read, petition_set}, proofs.One.Values.{one_petition}}
use Rattle.moo_load.proofs.taking.take_petition.Goals as goal

pub returns-clause-read : goal.returns-clause-read
returns-clause-read c =
    subst AreRead (sym (petition_set c.args.rows.now c.put_petition.new.self c.set_head.new.self c.head-head.result _ c.in_ok-id.id c.in_ok-id.row c.in_ok-put_petition.ensures.ok c.head-head.ensures (omega arith) c.set_head.ensures)) (petition_read c.args.rows.now.maps c.requires c.in_ok-id.id c.in_ok-id.row c.in_ok-id.ensures.some c.in_ok-id.ensures.below c.in_ok-id.ensures.fits)

pub returns-clause-put : goal.returns-clause-put
returns-clause-put c id row is =
    let o = one_petition (c.in_ok-id.id, c.in_ok-id.row) (id, row) (sym c.in_ok-id.ensures.shown ∙ is) in
    petition_set c.args.rows.now c.put_petition.new.self c.set_head.new.self c.head-head.result _ c.in_ok-id.id c.in_ok-id.row c.in_ok-put_petition.ensures.ok c.head-head.ensures (omega arith) c.set_head.ensures
    ∙ (λ i. petition_taken c.args.rows.now.maps (o i).0 (o i).1)
