use Rattle.moo_run.{proofs.Words.{refl, sym, ◌∙◌, RefusesDump}, proofs.Beginning.{no_file}, proofs.Tasks.{never_lacks}}
use Rattle.moo_run.proofs.loading.read_world.Goals as goal

pub returns-then-eq-clause-failure : goal.returns-then-eq-clause-failure
returns-then-eq-clause-failure g c =
    rw (sym c.eq.ensures ∙ c.if-eq.true) (never_lacks (g.H.BatchFiles.lacks c.args.host.now) c.args.dump.now (RefusesDump (g.R.Read.remaining c.args.input.now)) c.rows_of_dump.result c.rows_of_dump.ensures.failure)

pub returns-in-Ok-clause-failure : goal.returns-in-Ok-clause-failure
returns-in-Ok-clause-failure g c =
    rw (sym c.eq.ensures ∙ c.if-eq.false, ← c.in-Ok.ensures.text) (never_lacks (g.H.BatchFiles.lacks c.args.host.now) c.args.dump.now (RefusesDump (g.H.Text.Read.remaining c.in-Ok.text)) c.rows_of_dump-in-Ok.result c.rows_of_dump-in-Ok.ensures.failure)

pub returns-in-Err-clause-failure : goal.returns-in-Err-clause-failure
returns-in-Err-clause-failure g c = (no_file _, λ none. c.in-Err.ensures.lacks refl)
