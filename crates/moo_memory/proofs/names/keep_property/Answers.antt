use Rattle.moo_memory.{proofs.Words.{ap, ◌∙◌, get, is_some, contents, slot_cmp, slot_exact, slot_total, named_cmp, named_total, has-insert, on_ok}, proofs.Keys.{adds-put}}
use Rattle.moo_rows.proofs.Naming.{named_exact}
use Rattle.moo_memory.proofs.names.keep_property.Goals as goal

pub returns-clause-definers : goal.returns-clause-definers
returns-clause-definers c = adds-put slot_total slot_exact c.put.result _ _ (c.args.tag.0, c.args.key) c.put.ensures.ok c.put.ensures.err

pub returns-clause-names : goal.returns-clause-names
returns-clause-names c = adds-put named_total named_exact c.put-2.result _ _ (c.args.tag, c.args.key) c.put-2.ensures.ok c.put-2.ensures.err

pub returns-clause-both : goal.returns-clause-both
returns-clause-both c =
    on_ok c.put-2.result
    (λ e. (
      ap (λ m. is_some (get m (c.args.tag.0, c.args.key))) c.in_ok-put.ensures.ok ∙ has-insert slot_total (contents slot_cmp c.args.definers.now) (c.args.tag.0, c.args.key) tt,
      ap (λ m. is_some (get m (c.args.tag, c.args.key))) e ∙ has-insert named_total (contents named_cmp c.args.names.now) (c.args.tag, c.args.key) tt,
    ))
    c.put-2.ensures.ok
