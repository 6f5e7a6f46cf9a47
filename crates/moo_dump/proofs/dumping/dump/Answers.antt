use Rattle.moo_dump.{proofs.Words.{arith, ℕ, take, ◌∙◌, Appends, dump, state_of}, proofs.Writing.{on_err, all_written, at_end, at_heading, at_objects, at_petitions}}
use Rattle.moo_dump.proofs.dumping.dump.Goals as goal
use Rattle.std.proofs.KnownBytes.{Appends-nil}

pub returns-in_err-outline-clause-err : goal.returns-in_err-outline-clause-err
returns-in_err-outline-clause-err g c = grind (arith, Appends-nil, on_err)

pub returns-in_err-heading-clause-err : goal.returns-in_err-heading-clause-err
returns-in_err-heading-clause-err g c = grind (arith, Appends-nil, on_err)

pub returns-in_err-put_all-clause-err : goal.returns-in_err-put_all-clause-err
returns-in_err-put_all-clause-err g c =
    on_err c.from_residual-in_err-put_all.result (at_heading (g.R.Rows.held c.args.rows.now).maps (g.W.Write.contents c.args.output.now) (g.W.Write.contents c.put_all.new.writer) c.deref.result.now (c.deref.ensures.value ∙ c.in_ok-heading.ensures) c.in_err-put_all.ensures.err)

pub returns-in_err-write_objects-clause-err : goal.returns-in_err-write_objects-clause-err
returns-in_err-write_objects-clause-err g c = grind (arith, on_err, at_objects)

pub returns-in_err-put_petitions-clause-err : goal.returns-in_err-put_petitions-clause-err
returns-in_err-put_petitions-clause-err g c = grind (arith, on_err, at_petitions)

pub returns-in_err-put_all-2-clause-err : goal.returns-in_err-put_all-2-clause-err
returns-in_err-put_all-2-clause-err g c =
    on_err c.from_residual-in_err-put_all-2.result (at_end (g.R.Rows.held c.args.rows.now).maps (g.W.Write.contents c.args.output.now) (g.W.Write.contents c.put_all.new.writer) c.deref.result.now (c.deref.ensures.value ∙ c.in_ok-heading.ensures) c.in_ok-put_all.ensures.ok (g.W.Write.contents c.write_objects.new.output) c.in_ok-write_objects.ensures.ok (g.W.Write.contents c.put_petitions.new.output) c.in_ok-put_petitions.ensures.ok (g.W.Write.contents c.put_all-2.new.writer) c.in_err-put_all-2.ensures.err)

pub returns-clause-ok : goal.returns-clause-ok
returns-clause-ok g c = all_written (g.R.Rows.held c.args.rows.now).maps (g.W.Write.contents c.args.output.now) (g.W.Write.contents c.put_all.new.writer) c.deref.result.now (c.deref.ensures.value ∙ c.in_ok-heading.ensures) c.in_ok-put_all.ensures.ok (g.W.Write.contents c.write_objects.new.output) c.in_ok-write_objects.ensures.ok (g.W.Write.contents c.put_petitions.new.output) c.in_ok-put_petitions.ensures.ok (g.W.Write.contents c.put_all-2.new.writer) c.in_ok-put_all-2.ensures.ok
