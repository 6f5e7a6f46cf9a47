use Rattle.moo_run.{proofs.Words.{true≢false, ◌∙◌, sym}, proofs.Beginning.{begins_opening, begins_dumped, load_reads, keeps_input}}
use Rattle.moo_run.proofs.loading.find_rows.Goals as goal
use Rattle.moo_world.proofs.Shown.OpeningRows.{opening-good}

pub read_world-requires : goal.read_world-requires
read_world-requires g c = record { read = λ other. c.requires.read c.in-Some.dump.now (load_reads c.args.task.action c.in-Some.dump.now c.in-Some.ensures.0 c.in-Some.ensures.1, other) }

pub returns-in_default-clause-finds : goal.returns-in_default-clause-finds
returns-in_default-clause-finds g c = record { good = opening-good; world = begins_opening c.args.task.action _ c.in_default.ensures }

pub returns-in-Ok-clause-finds : goal.returns-in-Ok-clause-finds
returns-in-Ok-clause-finds g c = record {
  good = c.in-Ok.ensures.good;
  world = begins_dumped c.args.task.action _ c.in-Some.dump.now c.in-Ok.rows.maps c.in-Some.ensures.0 c.in-Some.ensures.1 c.in-Ok.ensures.dumped (record { formed = record { world = c.in-Ok.ensures.good.formed; petitions = c.in-Ok.ensures.good.petitions }; limit = c.in-Ok.ensures.limit }) c.in-Ok.ensures.numbered;
}

pub returns-in-Err-clause-finds : goal.returns-in-Err-clause-finds
returns-in-Err-clause-finds g c = (c.in-Some.ensures.0, rw c.in-Some.ensures.1 c.in-Err.ensures.failure)

pub returns-in-Ok-clause-other : goal.returns-in-Ok-clause-other
returns-in-Ok-clause-other g c other = absurd (true≢false (sym c.in-Some.ensures.0 ∙ other))

pub returns-in-Err-clause-other : goal.returns-in-Err-clause-other
returns-in-Err-clause-other g c other = absurd (true≢false (sym c.in-Some.ensures.0 ∙ other))

pub returns-in-Ok-clause-input : goal.returns-in-Ok-clause-input
returns-in-Ok-clause-input g c other = c.in-Ok.ensures.input (keeps_input c.args.task c.in-Some.dump.now c.in-Some.ensures.0 c.in-Some.ensures.1 other)

pub returns-in-Err-clause-input : goal.returns-in-Err-clause-input
returns-in-Err-clause-input g c other = c.in-Err.ensures.input (keeps_input c.args.task c.in-Some.dump.now c.in-Some.ensures.0 c.in-Some.ensures.1 other)
