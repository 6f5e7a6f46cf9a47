use Rattle.moo_files.{proofs.Words.{file_state, LeavesAsMade, image_at}, specs.Making.{rows_made}, proofs.ContentsLemmas.{none_below, clean_either, no_table, found_something}, proofs.MakingLemmas.{of_loading, takes_world, has_room, keeps_site, unmade_more}, proofs.RefusalLemmas.{unconnected_cause, making_stops}}
use Rattle.moo_files.proofs.making.make_from.Goals as goal

pub returns-in-Ok-make_files-clause-makes : goal.returns-in-Ok-make_files-clause-makes
returns-in-Ok-make_files-clause-makes g c =
    let made = c.in-Ok-make_files.ensures.loads in
    let it = c.in-Ok.ensures.connects in
    record {
      unseen = made.unseen;
      seen = made.seen;
      room = λ clean. no_table it (none_below _ _ made.crash.clean clean) made.empty;
      over = λ site is clean. takes_world it (none_below _ _ made.crash.clean clean) made.empty site is;
    }

pub returns-in-Err-make_files-clause-makes : goal.returns-in-Err-make_files-clause-makes
returns-in-Err-make_files-clause-makes g c =
    let last = c.in-Err-make_files.conn in
    let unmade = c.in-Err-make_files.ensures.loads in
    let it = c.in-Ok.ensures.connects in
    let early = clean_either c.in-Ok.conn last (λ trees. LeavesAsMade trees (rows_made c.args.rows)) unmade.crash in
    record {
      of_store = of_loading unmade.kind;
      stopped = tt;
      spared = λ some clean. found_something it (early clean) some;
      kept = λ site is clean. keeps_site it (early clean) (λ trees. LeavesAsMade trees (rows_made c.args.rows)) last (λ taken. (unmade.taken taken).1) unmade.crash clean _ site is;
    }

-- no connection was opened
pub returns-in-Err-clause-makes : goal.returns-in-Err-clause-makes
returns-in-Err-clause-makes g c =
    unmade_more (λ _. ⊥) (λ found. LeavesAsMade found (rows_made c.args.rows)) (λ found never. absurd never) (image_at g.T.Start) c.in-Err.fault c.in-Err.remains c.in-Err.ensures.unmade

pub returns-in-Err-clause-cause : goal.returns-in-Err-clause-cause
returns-in-Err-clause-cause g c openable clean = unconnected_cause _ _ c.in-Err.fault c.in-Err.remains (c.in-Err.ensures.cause openable clean)

pub returns-in-Err-make_files-clause-cause : goal.returns-in-Err-make_files-clause-cause
returns-in-Err-make_files-clause-cause g c openable clean site is room =
    let conn = c.in-Ok.conn in
    let last = c.in-Err-make_files.conn in
    let unmade = c.in-Err-make_files.ensures.loads in
    let it = c.in-Ok.ensures.connects in
    let early = clean_either conn last (λ trees. LeavesAsMade trees (rows_made c.args.rows)) unmade.crash clean in
    making_stops (file_state conn) last (it.opened early).0.is_open it.unlimited c.in-Err-make_files.fault clean (has_room it early site is room) unmade.kind
