use Rattle.moo_tables_rows.{proofs.Words.{ap, ◌∙◌, Text, verb_row}, proofs.VerbLemmas.{wrote, kept}}
use Rattle.moo_tables_rows.proofs.verb.VerbCellsTableRow.write.Goals as goal

pub returns-in-Some-clause-wrote : goal.returns-in-Some-clause-wrote
returns-in-Some-clause-wrote g c =
    wrote _ _ _ c.args.self.now c.in-Some.bits c.args.text.now _ _ c.in-Some.is (c.verb_values.ensures ∙ ap (λ text. verb_row c.args.key c.args.self.now (Text text)) c.as_slice.ensures.value) c.run.ensures.ran c.run.ensures.executes

pub returns-in-None-clause-wrote : goal.returns-in-None-clause-wrote
returns-in-None-clause-wrote g c = kept _ _ _ c.args.self.now c.args.text.now _ _ c.in-None.is c.kept_verb_values.ensures c.run-in-None.ensures.ran c.run-in-None.ensures.executes
