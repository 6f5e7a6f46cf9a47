use Rattle.sqlite.specs.Files.{file_state}
use Rattle.moo_run_laws.{specs.FileRuns.{run_of}, proofs.LawLemmas.{serves_to}}
use Rattle.moo_run_laws.proofs.law.services_end_where_connections_led.Goals as goal

pub returns : goal.returns
returns g c = record { served = λ run conn task service m is ran. serves_to (file_state conn) task service m (run_of run) is ran }
