use Rattle.moo_run.{proofs.Words.{inl, subst, ◌∙◌, file_state, over_files, image_at, given_to, Reports, Run}, proofs.Beginning.{made_since, reads_on}, proofs.Connections.{runs_made}, proofs.OverFiles.{tells_fault, made_over, unmade_over, ungiven_over}}
use Rattle.moo_files.{specs.Causes.{HasCauseOr, IsDenied, IsOpenable}, specs.Making.{Filled, rows_made, StopsMaking}, specs.Remains.{IsCleanRemains}}
use Rattle.moo_run.proofs.files.run_made.Goals as goal

pub returns-in-Ok-make_from-clause-runs : goal.returns-in-Ok-make_from-clause-runs
returns-in-Ok-make_from-clause-runs g c =
    let last = c.run_in_files.new.session in
    let mid = c.find_rows.new.session in
    let was = c.args.session.now in
    let rows = rows_made c.in-Ok.rows in
    let world = c.in-Ok-make_from.world in
    let store = file_state c.run_in_files.result in
    let image = image_at g.S.File.Start in
    let made = c.in-Ok-make_from.ensures.makes in
    let ran = c.run_in_files.ensures in
    let early = ran.clean _ made.unseen in
    let run : Run = record { given = given_to g.S.Input.Read g.S.Host.BatchFiles g.S.Host.WorldFiles.denies g.S.Host.Ports g.S.Host.Source.Arrivals g.S.Host.Source.Reader.Read g.S.Host.Source.Reader.Incoming.fails g.S.Host.Source.Writer.Write mid.input mid.host last.host; before = g.S.Output.Write.contents mid.output; after = g.S.Output.Write.contents last.output; status = last.status } in
    made_over c.args.task image _ c.requires.anew rows world c.run_in_files.result c.in-Ok.ensures.finds
    (made_since (given_to g.S.Input.Read g.S.Host.BatchFiles g.S.Host.WorldFiles.denies g.S.Host.Ports g.S.Host.Source.Arrivals g.S.Host.Source.Reader.Read g.S.Host.Source.Reader.Incoming.fails g.S.Host.Source.Writer.Write) g.S.Output.Write.contents store c.args.task rows was.input mid.input was.host mid.host last.host was.output mid.output run.after last.status c.in-Ok.ensures.other c.in-Ok.ensures.rests c.in-Ok.ensures.unwritten (λ rests. rests) (runs_made over_files world store c.args.task rows run made.unseen made.seen early ran.runs))
    early (λ trees holds any clean. made.over (Filled trees) holds clean any) made.room

pub returns-in-Err-make_from-clause-runs : goal.returns-in-Err-make_from-clause-runs
returns-in-Err-make_from-clause-runs g c =
    let last = c.fail_to_open.new.self in
    let was = c.args.session.now in
    let fault = c.in-Err-make_from.fault in
    let rest = c.in-Err-make_from.remains in
    let image = image_at g.S.File.Start in
    let run : Run = record { given = given_to g.S.Input.Read g.S.Host.BatchFiles g.S.Host.WorldFiles.denies g.S.Host.Ports g.S.Host.Source.Arrivals g.S.Host.Source.Reader.Read g.S.Host.Source.Reader.Incoming.fails g.S.Host.Source.Writer.Write was.input was.host last.host; before = g.S.Output.Write.contents was.output; after = g.S.Output.Write.contents last.output; status = last.status } in
    unmade_over c.args.task image run c.requires.anew fault rest (rows_made c.in-Ok.rows) c.in-Ok.ensures.finds (c.fail_to_open.ensures.host ∙ c.in-Ok.ensures.rests)
    (tells_fault fault c.store_failure.result run.before run.after last.status (inl c.store_failure.ensures) (subst (λ output. Reports c.store_failure.result (g.S.Output.Write.contents output) run.after last.status) c.in-Ok.ensures.unwritten c.fail_to_open.ensures.reports))
    c.in-Err-make_from.ensures.makes
    (subst (λ host. IsOpenable image → IsCleanRemains rest → HasCauseOr (StopsMaking image fault) (IsDenied (g.S.Host.WorldFiles.denies host) c.args.task.file.now) fault rest) c.in-Ok.ensures.rests c.in-Err-make_from.ensures.cause)

pub returns-in-Err-clause-runs : goal.returns-in-Err-clause-runs
returns-in-Err-clause-runs g c =
    let last = c.fail.new.self in
    ungiven_over c.args.task _ _ c.requires.anew c.args.start c.in-Err.failure c.in-Err.ensures.finds (c.fail.ensures.host ∙ c.in-Err.ensures.rests)
    (subst (λ output. Reports c.in-Err.failure (g.S.Output.Write.contents output) (g.S.Output.Write.contents last.output) last.status) c.in-Err.ensures.unwritten c.fail.ensures.reports)

pub returns-in-Err-clause-input : goal.returns-in-Err-clause-input
returns-in-Err-clause-input g c other = c.fail.ensures.input ∙ c.in-Err.ensures.input other

pub returns-in-Ok-make_from-clause-input : goal.returns-in-Ok-make_from-clause-input
returns-in-Ok-make_from-clause-input g c other = c.run_in_files.ensures.input other ∙ c.in-Ok.ensures.input other

pub returns-in-Err-make_from-clause-input : goal.returns-in-Err-make_from-clause-input
returns-in-Err-make_from-clause-input g c other = c.fail_to_open.ensures.input ∙ c.in-Ok.ensures.input other

pub run_in_files-requires : goal.run_in_files-requires
run_in_files-requires g c = record { read = reads_on g.S.Host.BatchFiles.may_read c.args.session.now.host c.find_rows.new.session.host c.in-Ok.ensures.rests c.args.task c.requires.read }
