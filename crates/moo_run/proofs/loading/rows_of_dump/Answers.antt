use Rattle.moo_run.{proofs.Words.{◌≢◌, ◌<◌, length, subst, State, IsHeld}, proofs.Beginning.{unread, no_dump, input_opened, dump_opened}}
use Rattle.moo_run.proofs.loading.rows_of_dump.Goals as goal
use Rattle.std.proofs.lemmas.Result.{err_from_is_err_and}
use Rattle.moo_dump.specs.Dump.{dump as dump_of}
use Rattle.moo_load.specs.declared.fault.LoadFault.TheVariants.{OutOfMemory}

pub returns-in_err-bytes-clause-failure : goal.returns-in_err-bytes-clause-failure
returns-in_err-bytes-clause-failure g c =
    let p = err_from_is_err_and c.from_residual.result c.from_residual.ensures.1 in
    rw p.1 (unread (g.R.Read.remaining c.args.text) c.in_err-bytes.field-0.0 p.0 p.2 c.in_err-bytes.ensures.long, input_opened c.in_err-bytes.field-0.0 p.0 p.2)

pub returns-in_err-rows-clause-failure : goal.returns-in_err-rows-clause-failure
returns-in_err-rows-clause-failure g c =
    let p = err_from_is_err_and c.from_residual-in_err-rows.result c.from_residual-in_err-rows.ensures.1 in
    let complete = subst (λ text. c.in_err-rows.field-0.0 ≢ OutOfMemory → length text < 4294967295 → (s : State) → IsHeld s → dump_of s ≢ text) c.deref.ensures.value c.in_err-rows.ensures.complete in
    rw p.1 (no_dump c.in_ok-bytes.bytes.items c.in_ok-bytes.ensures.limit (g.R.Read.remaining c.args.text) c.in_err-rows.field-0.0 p.0 p.2 c.in_ok-bytes.ensures.whole complete, dump_opened c.in_err-rows.field-0.0 p.0 p.2)
