use Rattle.std.proofs.Common.{sym, ◌∙◌}
use Rattle.moo_rows.proofs.Contents.{contents-insert, get-contents, on_err}
use Rattle.moo_rows.proofs.ordered.replace.Goals as goal

pub returns-clause-old : goal.returns-clause-old
returns-clause-old g c = c.in_ok-old.ensures.old ∙ sym (get-contents g.met.K.Ord.total c.args.rows.now c.args.key)

pub returns-clause-ok : goal.returns-clause-ok
returns-clause-ok g c = contents-insert g.met.K.Ord.total g.met.K.OrderedKey.exact c.args.rows.now c.insert.new.self _ _ c.in_ok-old.ensures.updates.0

pub returns-in_err-old-clause-absent : goal.returns-in_err-old-clause-absent
returns-in_err-old-clause-absent g c = on_err c.from_residual.result (get-contents g.met.K.Ord.total c.args.rows.now c.args.key ∙ c.in_err-old.ensures.absent)
