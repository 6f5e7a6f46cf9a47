-- What is seen of what was asked, by what came of it, and what one place more is told with.
use Rattle.std.proofs.Common.{◌≡◌, List, [], ◌∷◌, ◌++◌, Option, Result, Ok, Err, MatchResult, String, refl, subst}
use Rattle.std.specs.declared.alloc.Global.{Global}
use Rattle.moo_rows.specs.Maps.{Maps}
use Rattle.moo_world.specs.declared.call.Batch.{Batch}
use Rattle.moo_text.specs.declared.reply.Reply.{Reply}
use Rattle.moo_store.specs.Seeing.{HasSeenReply}
use Rattle.moo_store.{specs.declared.fault.StoreFault.{StoreFault}, specs.declared.fault.StoreFault.TheVariants.{Store, Damaged, NewerVersion, OutOfMemory, Closed}}
use Rattle.moo_reasons.{specs.Seen.{Seen, SeesRefusal}, specs.Told.{AreTold, TellsPlace}, specs.declared.line.Why.{Why}}
use Rattle.moo_http_request.{specs.declared.asked.Asked.TheVariants.{Calls, Each}, specs.declared.each.Each.{Each as AskedEach}, specs.declared.asked.Mode.{Mode}}
use Rattle.moo_http_response.{specs.declared.outcome.RequestOutcome.{RequestOutcome}}
use Rattle.moo_http_response.specs.declared.outcome.RequestOutcome.TheVariants as outcome
use Rattle.moo_http.{specs.Seen.{HasSeenAsked}, specs.Settled.{came_of, lost_by}}

-- by which answers a fault is told
lost_is : (P : RequestOutcome → Type 0) (fault : StoreFault) → P outcome.NoMemory → P outcome.Closed → P outcome.Fault → P (lost_by fault)
lost_is P (Store error) memory closed failed = failed
lost_is P (Damaged kind key) memory closed failed = failed
lost_is P NewerVersion memory closed failed = failed
lost_is P OutOfMemory memory closed failed = memory
lost_is P Closed memory closed failed = closed

module _ (maps : Maps) (kept next : Seen) where
  pub seen_one : (Lost : StoreFault → Type 0) (mode : Mode) (batch : Batch) (r : Result Reply StoreFault) (o : RequestOutcome) → o ≡ came_of r → MatchResult r (λ reply. HasSeenReply SeesRefusal maps batch reply kept next) Lost
      → HasSeenAsked maps (Calls mode batch) o kept next
  seen_one Lost mode batch (Ok reply) o is seen = rw is seen
  seen_one Lost mode batch (Err fault) o is seen = rw is (lost_is (λ o. HasSeenAsked maps (Calls mode batch) o kept next) fault tt tt tt)

  pub seen_lost : (each : AskedEach) (fault : StoreFault) (o : RequestOutcome) → o ≡ lost_by fault → HasSeenAsked maps (Each each) o kept next
  seen_lost each fault o is = rw is (lost_is (λ o. HasSeenAsked maps (Each each) o kept next) fault tt tt tt)

pub told-more : (replies : List (Option Reply)) (lines : List (Option (String Global))) (reply : Option Reply) (line : Option (String Global)) (whys left rest : List Why)
    → AreTold whys replies lines left → TellsPlace left reply line rest → AreTold whys (replies ++ reply ∷ []) (lines ++ line ∷ []) rest
told-more [] [] reply line whys left rest same one = (rest, subst (λ w. TellsPlace w reply line rest) same one, refl)
told-more [] (l ∷ lines) reply line whys left rest told one = absurd told
told-more (r ∷ replies) [] reply line whys left rest told one = absurd told
told-more (r ∷ replies) (l ∷ lines) reply line whys left rest told one = (told.0, told.1, told-more replies lines reply line told.0 left rest told.2 one)
