use Rattle.moo_dump.{proofs.Words.{arith, ◌≡◌, sym, ap, subst, ◌∙◌, rules, entries, flat_map, petitions_left, petition_line, petitions_text}, proofs.Writing.{HasWritten, written_none, on_err, next_part, next_written}}
use Rattle.moo_dump.proofs.dumping.put_petitions.Goals as goal

pub loop-id-init : goal.loop-id-init
loop-id-init g c = grind (arith, written_none)

pub returns-in_err-put_all-clause-err : goal.returns-in_err-put_all-clause-err
returns-in_err-put_all-clause-err g c =
    on_err c.from_residual-in_err-put_all.result (next_part (g.W.Write.contents c.args.output.now) (g.W.Write.contents c.loop-id.output) (g.W.Write.contents c.put_all.new.writer) (petition_line (c.in-Some.id, c.in-Some.row.now)) (flat_map petition_line (petitions_left c.next.new.self.last (g.R.Rows.held c.next.new.self.rows.now).maps)) c.deref.result.now (c.deref.ensures.value ∙ c.in_ok-text.ensures) c.loop-id.invariant (ap (flat_map petition_line) c.in-Some.ensures.steps) c.in_err-put_all.ensures.err)

pub loop-id-preserved : goal.loop-id-preserved
loop-id-preserved g c =
    next_written (g.W.Write.contents c.args.output.now) (g.W.Write.contents c.loop-id.output) (g.W.Write.contents c.put_all.new.writer) (petition_line (c.in-Some.id, c.in-Some.row.now)) (flat_map petition_line (petitions_left c.next.new.self.last (g.R.Rows.held c.next.new.self.rows.now).maps)) c.deref.result.now (c.deref.ensures.value ∙ c.in_ok-text.ensures) c.loop-id.invariant (ap (flat_map petition_line) c.in-Some.ensures.steps) c.in_ok-put_all.ensures.ok
