use Rattle.moo_files.{proofs.Words.{over_files, store_of}, proofs.AgainLemmas.{held_after}}
use Rattle.moo_files.proofs.again.open_again.Goals as goal

pub returns-clause-found : goal.returns-clause-found
returns-clause-found g c crashed place image opened stands known clean left kept =
    let it = held_after (store_of over_files crashed) place image left.trees stands.good known (stands.crash clean) left.such left.holds in
    (it.0, it.1, it.2, kept it.0 it.2)

pub returns-clause-refused : goal.returns-clause-refused
returns-clause-refused g c crashed place image opened stands known clean left whole =
    let it = held_after (store_of over_files crashed) place image left.trees stands.good known (stands.crash clean) left.such left.holds in
    whole it.0 it.2
