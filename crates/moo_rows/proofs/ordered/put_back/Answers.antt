use Rattle.std.proofs.Common.{sym, ap, ◌∙◌}
use Rattle.std.specs.FinMap as map
use Rattle.moo_rows.{specs.Ordered.{contents}, proofs.Contents.{removed-again, put-held}}
use Rattle.moo_rows.proofs.ordered.put_back.Goals as goal

pub returns-in-None : goal.returns-in-None
returns-in-None g c before row is had =
    c.remove.ensures ∙ ap (λ m. map.remove m c.args.key) is ∙ removed-again g.met.K.Ord.total g.met.K.OrderedKey.exact before c.args.key row (sym had ∙ c.in-None.is)

pub returns-in-Some : goal.returns-in-Some
returns-in-Some g c before row is had =
    let cmp = g.K.Ord.cmp in
    put-held g.met.K.Ord.total g.met.K.OrderedKey.exact before c.args.key row c.replace-never_fails.result (contents cmp c.args.rows.now) (contents cmp c.replace-never_fails.new.rows) c.in-Some.row
    is (sym had ∙ c.in-Some.is) c.replace-never_fails.ensures.ok c.replace-never_fails.ensures.absent
