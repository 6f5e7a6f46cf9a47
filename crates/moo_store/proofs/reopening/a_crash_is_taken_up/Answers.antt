use Rattle.moo_store.{proofs.Words.{Ok, Err, state, clean_before, store_of}, proofs.TakenUp.{left_in, taken_up, refused_left}}
use Rattle.moo_store.proofs.reopening.a_crash_is_taken_up.Goals as goal

pub returns-clause-stands : goal.returns-clause-stands
returns-clause-stands g c crashed place found (Err e) it = tt
returns-clause-stands g c crashed place found (Ok world) it =
    λ clean.
    let may = it.opens (clean_before (state g.T.Store found) (store_of g.T.Store world) _ it.adopts.crash clean) in
    taken_up g.S.Store g.T.Store crashed place found world (left_in g.S.Store g.T.Store crashed place found it.stands it.known may) it.adopts clean

pub returns-clause-refused : goal.returns-clause-refused
returns-clause-refused g c crashed place found (Ok world) it = tt
returns-clause-refused g c crashed place found (Err e) it =
    λ clean.
    let may = it.opens (clean_before (state g.T.Store found) (state g.T.Store e.1) _ it.adopts.crash clean) in
    refused_left g.S.Store g.T.Store crashed place found e.0 e.1 (left_in g.S.Store g.T.Store crashed place found it.stands it.known may) it.adopts clean
