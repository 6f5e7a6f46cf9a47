use Rattle.moo_run.proofs.run.run_to_end.Goals as goal

pub returns-clause-closed : goal.returns-clause-closed
returns-clause-closed g c = (c.run_words.result, c.run_words.ensures.over, c.close.ensures)
