use Rattle.moo_load.{proofs.Words.{◌≡◌, ◌<◌, ap, sym, subst, ◌∙◌, arith, AreRead, Head, property_taken}, proofs.Within.{property_read, property_set}, proofs.One.Values.{one_property}}
use Rattle.moo_load.proofs.taking.take_property.Goals as goal

pub returns-clause-read : goal.returns-clause-read
returns-clause-read c =
    let own : c.head-head.result.next_prop ≡ c.args.rows.now.maps.head.next_prop = ap (λ (h : Head). h.next_prop) c.head-head.ensures in
    let left : c.args.rows.now.maps.head.next_prop < 4294967295 = omega (arith, own, c.requires.within.next_prop.1) in
    subst AreRead (sym (property_set c.args.rows.now c.put_prop.new.self c.set_head.new.self c.head-head.result c.head-head.ensures c.in_ok-row.row c.in_ok-put_prop.ensures.ok c.set_head.ensures)) (property_read c.args.rows.now.maps c.requires c.in_ok-row.row left c.in_ok-row.ensures.fits)

pub returns-clause-put : goal.returns-clause-put
returns-clause-put c row is =
    property_set c.args.rows.now c.put_prop.new.self c.set_head.new.self c.head-head.result c.head-head.ensures c.in_ok-row.row c.in_ok-put_prop.ensures.ok c.set_head.ensures
    ∙ ap (property_taken c.args.rows.now.maps) (one_property c.in_ok-row.row row (sym c.in_ok-row.ensures.shown ∙ is))
