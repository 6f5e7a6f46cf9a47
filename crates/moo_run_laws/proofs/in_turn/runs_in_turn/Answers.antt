use Rattle.moo_store.specs.Moment.{rows_alone}
use Rattle.moo_run_laws.{proofs.InTurnLemmas.{history, led_in_turn}, proofs.LedLemmas.{counts, led_after, moments_keep, once}}
use Rattle.moo_run_laws.proofs.in_turn.runs_in_turn.Goals as goal

pub returns : goal.returns
returns g c = record {
  history = history;
  state = λ runs m end batches it. led_after (rows_alone m.rows) (rows_alone end.rows) batches (led_in_turn runs m end batches it);
  counts = λ runs m end batches it. counts (rows_alone m.rows) (rows_alone end.rows) batches (led_in_turn runs m end batches it);
  once = λ runs m end batches number it. once (rows_alone m.rows) (rows_alone end.rows) batches number (led_in_turn runs m end batches it);
  rises = λ runs m end batches good it none. moments_keep (rows_alone m.rows) (rows_alone end.rows) batches good (led_in_turn runs m end batches it) none;
}
