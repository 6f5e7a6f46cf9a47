-- Why a head is refused, in sentences for people.
use Rattle.std.specs.Prelude.{List, ℕ, Bool, Option, Some, None, codes, if◌then◌else◌}
use Rattle.moo_http_request.specs.{declared.asked.Mode.TheVariants.{Run, Ask}, declared.asked.Refusal.{Refusal}}
use Rattle.moo_http_request.specs.declared.asked.Refusal.TheVariants.{Coded, NoLength, NotFound, NoNumber, NotAllowed}
use Rattle.moo_http_request.specs.{declared.question.Topic.TheVariants.{Seq, Object, Objects, Dump}, declared.routes.Endpoint.{Endpoint}}
use Rattle.moo_http_request.specs.declared.routes.Endpoint.TheVariants.{Batch, Each, About}

-- the sentence that tells the method of a route
abbrev pub method_why : Endpoint → List ℕ
method_why (Batch Run) = codes "/batch is asked by POST"
method_why (Batch Ask) = codes "/ask is asked by POST"
method_why Each = codes "/each is asked by POST"
method_why (About Seq) = codes "/seq is asked by GET"
method_why (About Object) = codes "/object is asked by GET"
method_why (About Objects) = codes "/objects is asked by GET"
method_why (About Dump) = codes "/dump is asked by GET"

-- why the head is refused; None if it isn't the head, or if nothing is said of it
abbrev pub head_why : Refusal → Option (List ℕ)
head_why Coded = Some (codes "chunked bodies aren't read: send content-length")
head_why NoLength = Some (codes "content-length isn't one number")
head_why NotFound = Some (codes "no route has this path")
head_why (NoNumber Object) = Some (codes "/object wants a number: /object/0")
head_why (NoNumber Objects) = Some (codes "/objects wants a number: /objects/0")
head_why (NotAllowed endpoint) = Some (method_why endpoint)
head_why other = None

-- why the head is refused, if the request asks why
abbrev pub head_told : Bool → Refusal → Option (List ℕ)
head_told asks_why refusal = if asks_why then head_why refusal else None
