use Rattle.moo_tables_rows.{proofs.Words.{arith}, proofs.InsideLemmas.{on_ok, changes_then}, proofs.CauseLemmas.{reaches, fails_after}}
use Rattle.moo_tables_rows.proofs.writing.write_over.Goals as goal

pub returns-clause-written : goal.returns-clause-written
returns-clause-written g c = on_ok c.write_new.result c.write_new.ensures.written (λ wrote. changes_then c.write_new.ensures.inside (c.in_ok-count.ensures.over.missed (omega arith)) wrote)

pub returns-clause-cause : goal.returns-clause-cause
returns-clause-cause g c =
    fails_after c.write_new.result (reaches c.update.ensures.inside (c.in_ok-count.ensures.over.missed (omega arith))) c.write_new.ensures.inside c.write_new.ensures.cause
