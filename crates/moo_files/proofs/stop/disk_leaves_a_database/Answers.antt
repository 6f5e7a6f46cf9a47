use Rattle.sqlite.specs.Files.{file_state}
use Rattle.moo_files.proofs.StopLemmas.{left_by_disk, places_are_databases}
use Rattle.moo_files.proofs.stop.disk_leaves_a_database.Goals as goal

pub returns-clause-left : goal.returns-clause-left
returns-clause-left g c conn image clean numbered sound lies = left_by_disk conn image clean numbered sound lies

pub returns-clause-place : goal.returns-clause-place
returns-clause-place g c conn place image clean numbered known leaves lies = left_by_disk conn image clean numbered (places_are_databases (file_state conn) place known leaves) lies
