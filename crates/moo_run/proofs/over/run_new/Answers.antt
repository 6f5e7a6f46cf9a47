use Rattle.moo_run.{proofs.Words.{inl, inr, state, given_to, Run}, proofs.Connections.{of_making, runs_made}}
use Rattle.moo_files.specs.Making.{rows_made}
use Rattle.moo_run.proofs.over.run_new.Goals as goal

pub returns-in-Ok-clause-runs : goal.returns-in-Ok-clause-runs
returns-in-Ok-clause-runs g c =
    let last = c.run_in_session.new.session in
    let was = c.args.session.now in
    let made = c.in-Ok.ensures.loads in
    let run : Run = record { given = given_to g.S.Input.Read g.S.Host.BatchFiles g.S.Host.WorldFiles.denies g.S.Host.Ports g.S.Host.Source.Arrivals g.S.Host.Source.Reader.Read g.S.Host.Source.Reader.Incoming.fails g.S.Host.Source.Writer.Write was.input was.host last.host; before = g.S.Output.Write.contents was.output; after = g.S.Output.Write.contents last.output; status = last.status } in
    inr (runs_made g.B.Store c.in-Ok.world (state g.B.Store c.run_in_session.result) c.args.task (rows_made c.args.rows) run made.unseen made.seen (c.run_in_session.ensures.clean _ made.unseen) c.run_in_session.ensures.runs)

pub returns-in-Err-clause-runs : goal.returns-in-Err-clause-runs
returns-in-Err-clause-runs g c = inl (c.fail.ensures.host, (c.from.result, of_making c.in-Err.fault c.from.result c.from.ensures c.in-Err.ensures.loads.kind, c.fail.ensures.reports))
