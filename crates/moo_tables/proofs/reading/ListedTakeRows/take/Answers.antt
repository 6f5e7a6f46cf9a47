use Rattle.moo_tables.proofs.Words.{sym, ap, ◌∙◌, ◌++◌, if◌then◌else◌}
use Rattle.std.proofs.Common.{append_assoc}
use Rattle.moo_tables.proofs.reading.ListedTakeRows.take.Goals as goal

pub returns : goal.returns
returns c first rows was took =
    let old = c.args.self.now.rows.items in
    let more = c.args.block.items in
    c.append.ensures.items ∙ ap (λ whole. if whole then old ++ more else old) (sym c.is_ok.ensures.value ∙ took) ∙ ap (λ l. l ++ more) was ∙ append_assoc first.rows.items rows more
