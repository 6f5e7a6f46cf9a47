use Rattle.moo_http.proofs.Words.{inl, inr, refl, ap}
use Rattle.moo_http.proofs.consult.ask_rows.Goals as goal
use Rattle.moo_http_response.specs.declared.outcome.RequestOutcome.TheVariants.{Told}

pub returns-in-Ok : goal.returns-in-Ok
returns-in-Ok g c = inl (ap Told c.in-Ok.ensures.told, refl)

pub returns-in-Err : goal.returns-in-Err
returns-in-Err g c = inr (c.in-Err.ensures.memory, refl, refl)
