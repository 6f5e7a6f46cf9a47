use Rattle.moo_run.{proofs.Words.{sym, subst, state, store_of, given_to, LeavesNothingNew, RunsIn, ShowsTables}, proofs.Connections.{runs_to, late_clean_of, done_if_none}}
use Rattle.moo_run.proofs.over.run_in_session.Goals as goal

pub returns-clause-runs : goal.returns-clause-runs
returns-clause-runs g c m stands =
    let given = given_to g.S.Input.Read g.S.Host.BatchFiles g.S.Host.WorldFiles.denies g.S.Host.Ports g.S.Host.Source.Arrivals g.S.Host.Source.Reader.Read g.S.Host.Source.Reader.Incoming.fails g.S.Host.Source.Writer.Write c.args.session.now.input c.args.session.now.host in
    subst (λ host. RunsIn (state g.B.Store c.into_connection.result) c.args.task m (record { given = given host; before = g.S.Output.Write.contents c.args.session.now.output; after = g.S.Output.Write.contents c.finish.new.self.output; status = c.finish.new.self.status })) (sym c.finish.ensures.host)
    (runs_to g.B.Store c.args.world c.do_task-done.new.world c.into_connection.result c.into_connection.ensures.is c.args.task m (given c.do_task-done.new.session.host) (g.S.Output.Write.contents c.args.session.now.output)
    c.do_task-done.result (g.S.Output.Write.contents c.do_task-done.new.session.output) (g.S.Output.Write.contents c.finish.new.self.output) c.do_task-done.new.session.status c.finish.new.self.status
    c.do_task-done.ensures.rests (c.do_task-done.ensures.ends m stands) c.finish.ensures.reports)

pub returns-clause-clean : goal.returns-clause-clean
returns-clause-clean g c m stands =
    late_clean_of g.B.Store c.args.world c.do_task-done.new.world c.into_connection.result c.into_connection.ensures.is c.args.task m (given_to g.S.Input.Read g.S.Host.BatchFiles g.S.Host.WorldFiles.denies g.S.Host.Ports g.S.Host.Source.Arrivals g.S.Host.Source.Reader.Read g.S.Host.Source.Reader.Incoming.fails g.S.Host.Source.Writer.Write c.args.session.now.input c.args.session.now.host c.do_task-done.new.session.host) (g.S.Output.Write.contents c.args.session.now.output)
    c.do_task-done.result (g.S.Output.Write.contents c.do_task-done.new.session.output) c.do_task-done.new.session.status (c.do_task-done.ensures.ends m stands)

pub returns-clause-shown : goal.returns-clause-shown
returns-clause-shown g c checks none =
    subst (λ conn. ShowsTables g.B.Store c.args.world (state g.B.Store conn)) (sym c.into_connection.ensures.is)
    (done_if_none _ c.do_task-done.result (g.S.Output.Write.contents c.do_task-done.new.session.output) (g.S.Output.Write.contents c.finish.new.self.output) c.finish.new.self.status (c.do_task-done.ensures.shown checks) c.finish.ensures.reports none)

pub returns-clause-still : goal.returns-clause-still
returns-clause-still g c reads =
    subst (λ conn. LeavesNothingNew (store_of g.B.Store c.args.world) (state g.B.Store conn)) (sym c.into_connection.ensures.is) (c.do_task-done.ensures.still reads)
