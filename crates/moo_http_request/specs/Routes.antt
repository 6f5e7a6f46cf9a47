-- The routes of the service, and the endpoint that a path names.
use Rattle.std.specs.Prelude.{ℕ, List, [], ◌∷◌, Option, Result, Ok, Err, codes, option_map}
use Rattle.matchit.specs.{Rows.{RowsOf}, Order.{placed}, Route.{Scan, parse_route}, Router.{RouteOf, route_from}, Seek.{first}}
use Rattle.matchit.specs.declared.error.InsertError.{InsertError}
use Rattle.moo_http_request.specs.{declared.routes.Endpoint.{Endpoint}, declared.routes.Endpoint.TheVariants.{Batch, Each, About}}
use Rattle.moo_http_request.specs.{declared.asked.Mode.TheVariants.{Run, Ask}, declared.question.Topic.{Topic}}
use Rattle.moo_http_request.specs.Questions.{all_topics, pattern}

-- the rows with a route that was read
abbrev pub add_read : Result Scan InsertError → Endpoint → RowsOf (RouteOf Endpoint) → RowsOf (RouteOf Endpoint)
add_read (Ok s) endpoint rows = placed (s.pattern, route_from s endpoint) rows
add_read (Err e) endpoint rows = rows

-- the rows with the route of a text
abbrev pub with_route : List ℕ → Endpoint → RowsOf (RouteOf Endpoint) → RowsOf (RouteOf Endpoint)
with_route text endpoint rows = add_read (parse_route text) endpoint rows

-- the rows with the route of each topic, in their order
abbrev pub with_topics : List Topic → RowsOf (RouteOf Endpoint) → RowsOf (RouteOf Endpoint)
with_topics [] rows = rows
with_topics (topic ∷ topics) rows = with_topics topics (with_route (pattern topic) (About topic) rows)

-- the routes of batches, of calls alone and of each topic, in the order of the router
unfoldable pub service_rows : RowsOf (RouteOf Endpoint)
service_rows = with_topics all_topics (with_route (codes "/each") Each (with_route (codes "/ask") (Batch Ask) (with_route (codes "/batch") (Batch Run) [])))

-- the endpoint of the first route that the path matches
abbrev pub endpoint_of : List ℕ → Option Endpoint
endpoint_of path = option_map (λ route. route.value) (first service_rows path)
