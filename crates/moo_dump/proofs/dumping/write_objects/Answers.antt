use Rattle.moo_dump.{proofs.Words.{arith, ◌≡◌, List, ℕ, sym, ap, subst, ◌∙◌, rules, entries, flat_map, ObjNo, ObjRow, objects_left, world_of, object_lines, objects_text}, proofs.ObjectLines.{objects_printed}, proofs.Writing.{HasWritten, written_none, on_err, next_part, next_written}}
use Rattle.moo_dump.proofs.dumping.write_objects.Goals as goal

pub loop-x-init : goal.loop-x-init
loop-x-init g c = grind (arith, objects_printed, written_none)

pub returns-in_err-put_all-clause-err : goal.returns-in_err-put_all-clause-err
returns-in_err-put_all-clause-err g c =
    let t = (g.R.Rows.held c.args.rows.now).maps in
    let lines : ObjNo × ObjRow → List ℕ = λ e. object_lines (world_of t) e.0 in
    on_err c.from_residual-in_err-put_all.result (next_part (g.W.Write.contents c.args.output.now) (g.W.Write.contents c.loop-x.output) (g.W.Write.contents c.put_all.new.writer) (object_lines (world_of t) c.in-Some.x) (flat_map lines (objects_left c.next.new.self.last (g.R.Rows.held c.next.new.self.rows.now).maps)) c.deref.result.now (c.deref.ensures.value ∙ c.in_ok-text.ensures) c.loop-x.invariant (ap (flat_map lines) c.in-Some.ensures.steps) c.in_err-put_all.ensures.err)

pub loop-x-preserved : goal.loop-x-preserved
loop-x-preserved g c = grind (arith, next_written)
