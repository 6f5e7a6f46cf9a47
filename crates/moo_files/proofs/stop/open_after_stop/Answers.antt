use Rattle.moo_files.{proofs.Words.{over_files, store_of}, proofs.AgainLemmas.{held_after}, proofs.StopLemmas.{left_by_disk, places_are_databases}}
use Rattle.moo_files.proofs.stop.open_after_stop.Goals as goal

pub returns-clause-found : goal.returns-clause-found
returns-clause-found g c stopped place image opened stands known clean numbered lies kept =
    let store = store_of over_files stopped in
    let left = left_by_disk stopped.connection image clean numbered (places_are_databases store place known (stands.crash clean)) lies in
    let it = held_after store place image left.trees stands.good known (stands.crash clean) left.such left.holds in
    (it.0, it.1, it.2, kept it.0 it.2)

pub returns-clause-refused : goal.returns-clause-refused
returns-clause-refused g c stopped place image opened stands known clean numbered lies whole =
    let store = store_of over_files stopped in
    let left = left_by_disk stopped.connection image clean numbered (places_are_databases store place known (stands.crash clean)) lies in
    let it = held_after store place image left.trees stands.good known (stands.crash clean) left.such left.holds in
    whole it.0 it.2
