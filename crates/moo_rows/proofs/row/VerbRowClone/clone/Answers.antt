use Rattle.moo_rows.specs.SameRows.{text_clone}
use Rattle.moo_rows.proofs.row.VerbRowClone.clone.Goals as goal

pub returns : goal.returns
returns c =
    let names = text_clone c.args.self.now.names c.in_ok-names.names c.in_ok-names.ensures.cases in
    record { cases = λ i. record c.args.self.now { names = names i } }
