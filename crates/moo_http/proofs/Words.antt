-- The words that most proofs of this crate share.
pub use Rattle.std.proofs.Common.{Bool, IsTrue, List, None, Option, Some, [], ap, append-nil, append_assoc, arith, false, inl, inr, length, refl, rules, subst, suc, sym, take, true, true≢false, zero, ℕ, ◌++◌, ◌+◌, ◌∙◌, ◌∷◌, ◌≡◌, ◌≢◌}
pub use Rattle.std.specs.Io.KnownBytes.{Appends, Consumes, Keeps}
pub use Rattle.std.specs.Prelude.{Err, IfErr, IfOk, IsErrAnd, IsErrOf, Ok, OnErr, OnOk, Result, is_ok, ◌⊎◌}
pub use Rattle.moo_http_request.specs.Request.{Takes}
pub use Rattle.moo_http_request.specs.declared.asked.Asked.{Asked}
pub use Rattle.moo_http_request.specs.declared.asked.Asked.TheVariants.{Calls, Refused}
pub use Rattle.moo_http_request.specs.declared.asked.Mode.TheVariants.{Ask, Run}
pub use Rattle.moo_http_request.specs.declared.request.Received.TheVariants.{Nothing, Request}
pub use Rattle.moo_http_response.specs.Responses.{response_of, response_text, response_with}
pub use Rattle.moo_http_response.specs.declared.outcome.RequestOutcome.{RequestOutcome}
pub use Rattle.moo_store.specs.Kept.{World}
pub use Rattle.moo_store.specs.Moves.{AsksAt, MovesBy, RunsAt, Stands, StopsStore, VerdictLeads, state_at}
pub use Rattle.moo_store.specs.World.{state_of_world}
pub use Rattle.moo_store.specs.Moment.{LeadsBy, Moment, rows_alone, state_of_moment}
pub use Rattle.moo_store.specs.Place.{Between, Failed, Place, Works}
pub use Rattle.moo_world.specs.Judge.{State, judge, left_by, state_of}
pub use Rattle.moo_world.specs.declared.call.Batch.{Batch}
pub use Rattle.sqlite.specs.Store.{Ghosts}
pub use Rattle.moo_http.specs.Advanced.{AdvancesBy, HasAdvanced, IsStillOrAdvanced}
pub use Rattle.moo_http.specs.Answers.{MayAnswer, answer}
pub use Rattle.moo_http.specs.Connections.{SaysByResult, WritesFront}
pub use Rattle.moo_http.specs.Lines.{listening_line, served_line}
pub use Rattle.moo_http.specs.Traffic.{Traffic}
pub use Rattle.moo_http.specs.Serves.{AnswersAsked, Written}
pub use Rattle.moo_http.specs.Turns.{Attended, Exchanged, Happening, ServesFrom, ServesOn, Visit, Visited, Yields, attended_between, settle, visit}
pub use Rattle.moo_http.specs.Settling.{TellsLoss, TellsLosses}
pub use Rattle.moo_http.specs.declared.fault.ServeFault.{ServeFault}
pub use Rattle.moo_http.specs.declared.fault.ServeFault.TheVariants.{OutOfMemory, Read, Write}
pub use Rattle.moo_http.specs.declared.service.ServiceFault.{ServiceFault}
pub use Rattle.moo_arrivals.specs.declared.cause.Loss.{Loss}
