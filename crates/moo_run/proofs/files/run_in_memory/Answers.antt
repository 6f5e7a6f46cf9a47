use Rattle.moo_run.{proofs.Words.{inl, inr, OutOfMemory}, proofs.OverFiles.{never_anew}}
use Rattle.moo_run.proofs.files.run_in_memory.Goals as goal

pub returns-in_default-clause-runs : goal.returns-in_default-clause-runs
returns-in_default-clause-runs g c = record {
  anew = λ anew. inl (c.fail.ensures.host, (OutOfMemory, inl tt, c.fail.ensures.reports));
  opened = λ other. never_anew c.args.task other c.requires.anew;
}

pub returns-clause-runs : goal.returns-clause-runs
returns-clause-runs g c = record {
  anew = λ anew. elim c.run_over-conn.ensures.runs [ inl fails ↦ inl fails | inr made ↦ inr (made.0, made.1, made.2.0) ];
  opened = λ other. never_anew c.args.task other c.requires.anew;
}
