use Rattle.moo_run.{proofs.Words.{Err, inl, refl, image_at, rows_alone, Run, given_to}, proofs.Connections.{unseen}, proofs.OverFiles.{ran_onto, tells_fault, refused_onto, never_anew}}
use Rattle.moo_run.proofs.files.run_found.Goals as goal
use Rattle.moo_files.proofs.OpenedLemmas.{still_holds}

pub returns-in-Ok-clause-runs : goal.returns-in-Ok-clause-runs
returns-in-Ok-clause-runs g c =
    let world = c.in-Ok.world in
    let found = c.in-Ok.ensures.opened in
    let here = rows_alone world.rows.maps in
    let ran = c.run_in_files.ensures in
    record {
      anew = λ anew. never_anew c.args.task c.requires.other anew;
      over = λ other held holds clean. ran_onto c.args.task world c.run_in_files.result _ held (c.in-Ok.ensures.opens held holds (ran.clean here found.unseen clean)) ran.runs (λ reads. ran.still reads clean);
      sound = λ other clean. found.sound (ran.clean here found.unseen clean);
      room = λ anew. never_anew c.args.task c.requires.other anew;
      occupied = λ trees anew. never_anew c.args.task c.requires.other anew;
      opened = λ other. (world.rows.maps, found.unseen.good here refl, unseen c.args.task here _ _ (ran.runs here found.unseen).0);
    }

pub returns-in-Err-clause-runs : goal.returns-in-Err-clause-runs
returns-in-Err-clause-runs g c =
    let fault = c.in-Err.fault in
    let last = c.fail_to_open.new.self in
    let run : Run = record { given = given_to g.S.Input.Read g.S.Host.BatchFiles g.S.Host.WorldFiles.denies g.S.Host.Ports g.S.Host.Source.Arrivals g.S.Host.Source.Reader.Read g.S.Host.Source.Reader.Incoming.fails g.S.Host.Source.Writer.Write c.args.session.now.input c.args.session.now.host last.host; before = g.S.Output.Write.contents c.args.session.now.output; after = g.S.Output.Write.contents last.output; status = last.status } in
    let reports = tells_fault fault c.refusal_of-failure.result run.before run.after last.status c.refusal_of-failure.ensures c.fail_to_open.ensures.reports in
    record {
      anew = λ anew. never_anew c.args.task c.requires.other anew;
      unfit = λ anew. never_anew c.args.task c.requires.other anew;
      over = λ other held holds clean. refused_onto (image_at g.S.File.Start) fault c.in-Err.remains run held (c.in-Err.ensures.refuses held holds clean) reports;
      left = still_holds (image_at g.S.File.Start) (Err (fault, c.in-Err.remains)) c.in-Err.ensures.refuses;
      spared = λ trees anew. never_anew c.args.task c.requires.other anew;
      unmade = λ trees anew. never_anew c.args.task c.requires.other anew;
      spares = λ some whole. c.in-Err.ensures.refused.spared some;
      fresh = λ anew. never_anew c.args.task c.requires.other anew;
      rests = c.fail_to_open.ensures.host;
      told = inl (fault, c.in-Err.ensures.refused.stopped, reports);
      cause = λ other tables holds clean. (fault, c.in-Err.ensures.stopped tables holds clean, reports);
    }
