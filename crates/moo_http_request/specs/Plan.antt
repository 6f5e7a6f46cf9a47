-- What the head of a request alone decides.
use Rattle.std.specs.Prelude.{◌==◌, ◌&&◌, ◌||◌, true, false, not, ℕ, List, length, map, Option, Some, None, option_and_then, codes}
use Rattle.std.specs.{Prelude.{bytes_eq, nat_lt, nat_le, if◌then◌else◌, Bool}, List.{before_first, after_first, list_all}}
use Rattle.httparse.specs.{Grammar.{RequestHead}, Spans.{name_and_value}}
use Rattle.moo_http_request.specs.{declared.asked.Asked.TheVariants.{Refused, Question as Asks}, declared.asked.Method.{Method}}
use Rattle.moo_http_request.specs.{declared.asked.Method.TheVariants.{Get, Post}, declared.asked.Form.{Form}}
use Rattle.moo_http_request.specs.declared.asked.Form.TheVariants as form
use Rattle.moo_http_request.specs.declared.asked.Refusal.{Refusal}
use Rattle.moo_http_request.specs.declared.asked.Refusal.TheVariants.{Coded, NoLength, Forbidden, NotFound, NoNumber, NotAllowed, TooLarge}
use Rattle.moo_http_request.specs.{declared.routes.Endpoint.{Endpoint}, declared.routes.Endpoint.TheVariants.{Batch, Each, About}}
use Rattle.moo_http_request.specs.{declared.question.Question.{Question}, declared.plan.Plan.{Plan}}
use Rattle.moo_http_request.specs.{declared.plan.Plan.TheVariants.{Decided, Body}, declared.question.Topic.{Topic}}
use Rattle.moo_http_request.specs.{declared.question.Topic.TheVariants.{Seq, Object, Objects}, Hosts.{is_own_line}}
use Rattle.moo_http_request.specs.{Lines.{Line, is_from_page, is_coded, length_text}, Numbers.{bounded_of}, Questions.{question_of}}
use Rattle.moo_http_request.specs.{Routes.{endpoint_of}, declared.plan.TheConstants.{MAX_BODY}}

-- the path is the target before its first question mark
abbrev pub path_of : List ℕ → List ℕ
path_of target = before_first (λ b. b == 63) target

-- the queries that ask why: `why`, `why=` and `why=1`
abbrev pub is_why_query : List ℕ → Bool
is_why_query query = bytes_eq query (codes "why") || bytes_eq query (codes "why=") || bytes_eq query (codes "why=1")

-- what follows the first question mark of the target asks why
abbrev pub is_why : List ℕ → Bool
is_why target = is_why_query (after_first (λ b. b == 63) target)

-- the method of a route
abbrev pub method_of : Endpoint → Method
method_of (About topic) = Get
method_of endpoint = Post

-- a method as a head writes it
abbrev pub method_text : Method → List ℕ
method_text Get = codes "GET"
method_text Post = codes "POST"

-- the length of a body: the one stated length, of 1 to 10 digits
abbrev pub length_of : List Line → Option ℕ
length_of lines = option_and_then (λ text. if nat_le (length text) 10 then bounded_of 9999999999 text else None) (length_text lines)

-- The body says what is asked, if its length is stated and is at most 1,048,576. Else the request is refused: a line names a coding, no
-- line or more than one states a length, or it is too large.
abbrev pub body_plan : Form → List Line → Option ℕ → Plan
body_plan form lines None = Decided (Refused (if is_coded lines then Coded else NoLength))
body_plan form lines (Some n) = if nat_lt MAX_BODY n then Decided (Refused TooLarge) else Body form n

-- the question that a path of the topic asks; if it asks none, it has no number
abbrev pub question_plan : Topic → Option Question → Plan
question_plan topic None = Decided (Refused (NoNumber topic))
question_plan topic (Some question) = Decided (Asks question)

-- what a route plans for a request that has its method: to read a body, or to answer a question
abbrev pub endpoint_plan : Endpoint → List ℕ → List Line → Plan
endpoint_plan (Batch mode) path lines = body_plan (form.Batch mode) lines (length_of lines)
endpoint_plan Each path lines = body_plan form.Each lines (length_of lines)
endpoint_plan (About topic) path lines = question_plan topic (question_of topic path)

-- a request with another method than its route has is refused; else the route plans it
abbrev pub allowed_plan : Endpoint → List ℕ → List ℕ → List Line → Plan
allowed_plan endpoint method path lines =
    if bytes_eq method (method_text (method_of endpoint)) then endpoint_plan endpoint path lines else Decided (Refused (NotAllowed endpoint))

-- whether a route is refused to a request for another machine: all are, but those of batches, `/seq` and that of one object
abbrev pub is_guarded : Endpoint → Bool
is_guarded (Batch mode) = false
is_guarded (About Seq) = false
is_guarded (About Object) = false
is_guarded endpoint = true

-- why a path has no route: it names the topic of an object or of objects, and leaves out the number; or it names nothing of the service
abbrev pub path_refusal : List ℕ → Refusal
path_refusal path =
    if bytes_eq path (codes "/object") || bytes_eq path (codes "/object/") then NoNumber Object
    else if bytes_eq path (codes "/objects") || bytes_eq path (codes "/objects/") then NoNumber Objects else NotFound

-- A path without a route is refused, then a request for another machine if its route is guarded. Else its method is looked at.
abbrev pub routed_plan : Option Endpoint → List ℕ → List ℕ → List Line → Plan
routed_plan None method path lines = Decided (Refused (path_refusal path))
routed_plan (Some endpoint) method path lines =
    if is_guarded endpoint && not (list_all is_own_line lines) then Decided (Refused Forbidden) else allowed_plan endpoint method path lines

-- what a method, a target and lines decide: a page of a browser is refused, no matter what it asks; else the route of the path plans it
abbrev pub plan_of : List ℕ → List ℕ → List Line → Plan
plan_of method target lines =
    if is_from_page lines then Decided (Refused Forbidden) else routed_plan (endpoint_of (path_of target)) method (path_of target) lines

-- what a head decides
abbrev pub plan_by : RequestHead → Plan
plan_by head = plan_of head.method head.target (map name_and_value head.fields)

-- how many bytes a plan reads after the head
abbrev pub body_size : Plan → ℕ
body_size (Decided asked) = 0
body_size (Body form n) = n

-- whether it is to be said why, if the request is refused
abbrev pub asks_why : RequestHead → Bool
asks_why head = is_why head.target

-- whether the method is HEAD
abbrev pub is_head : RequestHead → Bool
is_head head = bytes_eq head.method (codes "HEAD")
