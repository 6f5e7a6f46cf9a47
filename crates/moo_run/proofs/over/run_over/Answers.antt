use Rattle.moo_run.{proofs.Words.{inl, inr, subst, ◌∙◌, state, given_to, Reports}, proofs.Beginning.{made_since, reads_on}}
use Rattle.moo_files.specs.Making.{rows_made}
use Rattle.moo_run.proofs.over.run_over.Goals as goal

pub returns-in-Ok-clause-runs : goal.returns-in-Ok-clause-runs
returns-in-Ok-clause-runs g c =
    let last = c.run_new.new.session in
    let mid = c.find_rows.new.session in
    let was = c.args.session.now in
    let new = g.S.Output.Write.contents last.output in
    elim c.run_new.ensures.runs [
      | inl fails ↦ inl (
        fails.0 ∙ c.in-Ok.ensures.rests,
        (fails.1.0, inl fails.1.1, subst (λ output. Reports fails.1.0 (g.S.Output.Write.contents output) new last.status) c.in-Ok.ensures.unwritten fails.1.2),
      )
      | inr made ↦ inr (
        rows_made c.in-Ok.rows,
        c.in-Ok.ensures.finds,
        made_since (given_to g.S.Input.Read g.S.Host.BatchFiles g.S.Host.WorldFiles.denies g.S.Host.Ports g.S.Host.Source.Arrivals g.S.Host.Source.Reader.Read g.S.Host.Source.Reader.Incoming.fails g.S.Host.Source.Writer.Write) g.S.Output.Write.contents (state g.B.Store c.run_new.result) c.args.task (rows_made c.in-Ok.rows) was.input mid.input was.host mid.host last.host was.output mid.output new last.status c.in-Ok.ensures.other c.in-Ok.ensures.rests c.in-Ok.ensures.unwritten (λ rests. rests) made,
      )
    ]

pub returns-in-Err-clause-runs : goal.returns-in-Err-clause-runs
returns-in-Err-clause-runs g c =
    let last = c.fail.new.self in
    inl (
      c.fail.ensures.host ∙ c.in-Err.ensures.rests,
      (c.in-Err.failure, inr c.in-Err.ensures.finds, subst (λ output. Reports c.in-Err.failure (g.S.Output.Write.contents output) (g.S.Output.Write.contents last.output) last.status) c.in-Err.ensures.unwritten c.fail.ensures.reports),
    )

pub returns-in-Err-clause-input : goal.returns-in-Err-clause-input
returns-in-Err-clause-input g c other = c.fail.ensures.input ∙ c.in-Err.ensures.input other

pub returns-in-Ok-clause-input : goal.returns-in-Ok-clause-input
returns-in-Ok-clause-input g c other = c.run_new.ensures.input other ∙ c.in-Ok.ensures.input other

pub run_new-requires-clause-read : goal.run_new-requires-clause-read
run_new-requires-clause-read g c = reads_on g.S.Host.BatchFiles.may_read c.args.session.now.host c.find_rows.new.session.host c.in-Ok.ensures.rests c.args.task c.requires.read
