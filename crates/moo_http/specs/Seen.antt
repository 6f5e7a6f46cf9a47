-- What is seen of what was asked, and with which lines its answer is told.
use Rattle.std.specs.{Prelude.{◌≡◌, ◌⊎◌, ℕ, ⊤, List, [], ◌∷◌, Option, String}, declared.alloc.Global.{Global}}
use Rattle.moo_rows.specs.Maps.{Maps}
use Rattle.moo_store.specs.Seeing.{HasSeenReply, HasSeenEach}
use Rattle.moo_reasons.specs.{Seen.{Seen, SeesRefusal}, Told.{AreTold, TellsReply}, declared.line.Why.{Why}}
use Rattle.moo_http_request.specs.{declared.asked.Asked.{Asked}, declared.asked.Asked.TheVariants.{Calls, Each}}
use Rattle.moo_http_response.specs.{Whys.{whys_shown}, declared.outcome.RequestOutcome.{RequestOutcome}}
use Rattle.moo_http_response.specs.declared.outcome.RequestOutcome.TheVariants.{Replied, Each as each_replied}

-- Of a batch, or of each call that is asked alone, in their order, one refusal is seen if it is refused, and else none. `kept` and `next`
-- are what is kept of refusals before and after.
abbrev pub HasSeenAsked : Maps → Asked → RequestOutcome → Seen → Seen → Type 0
HasSeenAsked maps (Calls mode batch) (Replied reply) kept next = HasSeenReply SeesRefusal maps batch reply kept next
HasSeenAsked maps (Each each) (each_replied replies seq) kept next = HasSeenEach SeesRefusal maps each.batches replies kept next
HasSeenAsked maps asked outcome kept next = ⊤

-- the lines with which an outcome is told: each reply that refuses with the first refusal not told yet
abbrev pub TellsOutcome : List Why → RequestOutcome → List (Option (String Global)) → List Why → Type 0
TellsOutcome whys (Replied reply) lines rest = (line : Option (String Global)) × (lines ≡ line ∷ []) × TellsReply whys reply line rest
TellsOutcome whys (each_replied replies seq) lines rest = AreTold whys replies lines rest
TellsOutcome whys outcome lines rest = ⊤

-- The lines that an answer shows are those with which the outcome is told; or it shows none.
abbrev pub IsToldWith : List Why → RequestOutcome → List (Option (List ℕ)) → Type 0
IsToldWith whys outcome shown = (shown ≡ []) ⊎ ((lines : List (Option (String Global))) × (rest : List Why)
    × (shown ≡ whys_shown lines) × TellsOutcome whys outcome lines rest)
