use Rattle.moo_tables.{proofs.Words.{[], empty_slots_text}, proofs.GrowLemmas.{becomes_then}, proofs.MigrateLemmas.{all_migrated, empties, empties_beside, goes_on}, proofs.StopMigrateLemmas.{emptying_fails, comes_grown, comes_more, fails_then, fails_on}}
use Rattle.moo_tables.proofs.migrating.write_migrated.Goals as goal

pub returns-clause-goes_on : goal.returns-clause-goes_on
returns-clause-goes_on g c = goes_on (g.T.Run.state c.write_rows.new.tx) (g.T.Run.state c.run.new.self) empty_slots_text [] c.run.result c.run.ensures.ran

pub returns-clause-migrated : goal.returns-clause-migrated
returns-clause-migrated g c =
    let s0 = g.T.Run.state c.args.tx.now in
    let s4 = g.T.Run.state c.write_rows.new.tx in
    let s5 = g.T.Run.state c.run.new.self in
    let becomes = becomes_then s0 c.put_counter.ensures.inside c.in_ok-create_added_tables.ensures.made c.in_ok-put_counter.ensures.put in
    all_migrated s0 c.args.head.now c.args.slots.now c.run.result c.put_head.ensures.inside c.write_rows.ensures.inside c.run.ensures.inside becomes c.in_ok-put_head.ensures.put c.in_ok-write_rows.ensures.written
    (empties_beside s4 s5 c.run.result c.run.ensures.ran) (empties s4 s5 c.run.result c.run.ensures.ran)

-- why one fails

pub returns-in_err-put_counter-clause-cause : goal.returns-in_err-put_counter-clause-cause
returns-in_err-put_counter-clause-cause g c =
    let one = comes_grown c.create_added_tables.ensures.inside c.in_ok-create_added_tables.ensures.made in
    fails_on c.put_counter.result c.from_residual-in_err-put_counter.result one c.put_counter.ensures.inside c.put_counter.ensures.cause c.in_err-put_counter.was c.from_residual-in_err-put_counter.ensures.1

pub returns-in_err-put_head-clause-cause : goal.returns-in_err-put_head-clause-cause
returns-in_err-put_head-clause-cause g c =
    let one = comes_grown c.create_added_tables.ensures.inside c.in_ok-create_added_tables.ensures.made in
    let two = comes_more one c.put_counter.ensures.inside c.in_ok-put_counter.ensures.put in
    fails_on c.put_head.result c.from_residual-in_err-put_head.result two c.put_head.ensures.inside c.put_head.ensures.cause c.in_err-put_head.was c.from_residual-in_err-put_head.ensures.1

pub returns-in_err-write_rows-clause-cause : goal.returns-in_err-write_rows-clause-cause
returns-in_err-write_rows-clause-cause g c =
    let one = comes_grown c.create_added_tables.ensures.inside c.in_ok-create_added_tables.ensures.made in
    let two = comes_more one c.put_counter.ensures.inside c.in_ok-put_counter.ensures.put in
    let three = comes_more two c.put_head.ensures.inside c.in_ok-put_head.ensures.put in
    fails_on c.write_rows.result c.from_residual-in_err-write_rows.result three c.write_rows.ensures.inside c.write_rows.ensures.cause c.in_err-write_rows.was c.from_residual-in_err-write_rows.ensures.1

pub returns-clause-cause : goal.returns-clause-cause
returns-clause-cause g c =
    let one = comes_grown c.create_added_tables.ensures.inside c.in_ok-create_added_tables.ensures.made in
    let two = comes_more one c.put_counter.ensures.inside c.in_ok-put_counter.ensures.put in
    let three = comes_more two c.put_head.ensures.inside c.in_ok-put_head.ensures.put in
    let four = comes_more three c.write_rows.ensures.inside c.in_ok-write_rows.ensures.written in
    fails_then c.run.result four c.run.ensures.inside (emptying_fails (g.T.Run.state c.write_rows.new.tx) (g.T.Run.state c.run.new.self) c.run.result c.run.ensures.executes)
