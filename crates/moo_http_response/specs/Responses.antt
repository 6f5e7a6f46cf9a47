-- The status and the body of each answer.
use Rattle.std.specs.Prelude.{ℕ, List, [], ◌++◌, Bool, false, Option, Some, None, length, codes, if◌then◌else◌}
use Rattle.serde_json.specs.{Data.{Data, unsigned, number, object, member, no_members}, Written.{compact_text}}
use Rattle.moo_value.specs.Literal.{name}
use Rattle.moo_text.specs.declared.reply.Reply.{Reply}
use Rattle.moo_text.specs.declared.reply.Reply.TheVariants as reply
use Rattle.moo_http_request.specs.declared.asked.Refusal.{Refusal}
use Rattle.moo_http_request.specs.declared.asked.Refusal.TheVariants.{BadRequest, Coded, NoLength, Forbidden, NotFound, NoNumber}
use Rattle.moo_http_request.specs.{declared.asked.Refusal.TheVariants.{NotAllowed, TooLarge, Malformed}, Plan.{method_of, method_text}}
use Rattle.moo_http_response.specs.declared.outcome.RequestOutcome.{RequestOutcome}
use Rattle.moo_http_response.specs.declared.outcome.RequestOutcome.TheVariants.{Refused, Closed, Fault, NoMemory, Replied, Each}
use Rattle.moo_http_response.specs.declared.outcome.RequestOutcome.TheVariants.{Told as Tells}
use Rattle.moo_http_response.specs.{Bodies.{error_body, call_body, stale_body, accepted_body, look_body}, EachBodies.{each_body}}
use Rattle.moo_http_response.specs.{Whys.{first_why}, HeadWhys.{head_told}, declared.told.Told.{Told}}
use Rattle.moo_http_response.specs.declared.told.Told.TheVariants as told
use Rattle.moo_http_response.specs.{PageBodies.{page_body}, Bytes.{head_text}}

-- a status, the method to name in a line `allow`, and a body with its kind
pub record Response : Type 0 where
  pub status : ℕ
  pub allow : Option (List ℕ)
  pub kind : List ℕ
  pub body : List ℕ

-- a body of JSON
abbrev pub json : ℕ → Option (List ℕ) → Data → Response
json status allow body = record { status = status; allow = allow; kind = codes "application/json"; body = compact_text body }

-- a body of JSON, without a method to name
abbrev pub plain : ℕ → Data → Response
plain status body = json status None body

-- The response to a request that is refused before the World is asked. It says why a head is refused if the request asks, and why a body is
-- if that is told.
abbrev pub told_refusal : Bool → Option (List ℕ) → Refusal → Response
told_refusal asks_why why BadRequest = plain 400 (error_body why (codes "bad request"))
told_refusal asks_why why Coded = plain 400 (error_body (head_told asks_why Coded) (codes "bad request"))
told_refusal asks_why why NoLength = plain 400 (error_body (head_told asks_why NoLength) (codes "bad request"))
told_refusal asks_why why Forbidden = plain 403 (error_body None (codes "forbidden"))
told_refusal asks_why why NotFound = plain 404 (error_body (head_told asks_why NotFound) (codes "not found"))
told_refusal asks_why why (NoNumber topic) = plain 404 (error_body (head_told asks_why (NoNumber topic)) (codes "not found"))
told_refusal asks_why why (NotAllowed endpoint) =
    json 405 (Some (method_text (method_of endpoint))) (error_body (head_told asks_why (NotAllowed endpoint)) (codes "method not allowed"))
told_refusal asks_why why TooLarge = plain 413 (error_body None (codes "too large"))
told_refusal asks_why why (Malformed call) = plain 400 (call_body why call (codes "malformed"))

-- The response to a batch, by its reply. It says why the batch is refused, or which call spent the ticks, if that is told.
abbrev pub told_reply : Option (List ℕ) → Reply → Response
told_reply why reply.NoMemory = plain 503 (error_body why (codes "nomemory"))
told_reply why (reply.Stale seq) = plain 409 (stale_body seq)
told_reply why (reply.Refused call code) = plain 409 (call_body why call (name code))
told_reply why (reply.Full call) = plain 409 (call_body why call (codes "full"))
told_reply why (reply.Accepted seq answers) = plain 200 (accepted_body answers seq)

-- the response to a question, by what it is told: a dump is plain text, and all else is JSON
abbrev pub told_response : Told → Response
told_response (told.Seq seq) = plain 200 (object (member (codes "seq") (number (unsigned seq)) no_members))
told_response (told.Object look) = plain 200 (look_body look)
told_response told.NoObject = plain 404 (error_body None (codes "E_INVARG"))
told_response (told.Objects page seq) = plain 200 (page_body page seq)
told_response (told.Dump text) = record { status = 200; allow = None; kind = codes "text/plain"; body = text }

-- the bytes of a response; to HEAD the body is left off
abbrev pub response_text : Bool → Response → List ℕ
response_text is_head r = head_text r.status r.kind r.allow (length r.body) ++ (if is_head then [] else r.body)

-- The response to a request, by what came of it. It says why the request is refused, as far as that is told.
abbrev pub response_with : Bool → List (Option (List ℕ)) → RequestOutcome → Response
response_with asks_why whys (Refused refusal) = told_refusal asks_why (first_why whys) refusal
response_with asks_why whys Closed = plain 503 (error_body None (codes "closed"))
response_with asks_why whys Fault = plain 503 (error_body None (codes "fault"))
response_with asks_why whys NoMemory = told_reply (first_why whys) reply.NoMemory
response_with asks_why whys (Replied reply) = told_reply (first_why whys) reply
response_with asks_why whys (Each replies seq) = plain 200 (each_body whys replies seq)
response_with asks_why whys (Tells told) = told_response told

-- the response to a batch, by its reply, if no why is told
abbrev pub reply_response : Reply → Response
reply_response reply = told_reply None reply

-- the response to a request, by what came of it, if no why is told
abbrev pub response_of : RequestOutcome → Response
response_of outcome = response_with false [] outcome
