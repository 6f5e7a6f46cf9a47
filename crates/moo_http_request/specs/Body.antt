-- What a body asks.
use Rattle.std.specs.{Prelude.{◌≡◌, ℕ, List, Option, Some, None, map, option_and_then, IsUtf8}, Option.{option_map_or}}
use Rattle.serde_json.specs.{Data.{Data}, Read.{read}}
use Rattle.moo_http_request.specs.declared.asked.Asked.{Asked}
use Rattle.moo_http_request.specs.declared.asked.Asked.TheVariants as asks
use Rattle.moo_http_request.specs.{declared.asked.Form.{Form}, declared.asked.Form.TheVariants.{Batch, Each}, declared.asked.Mode.{Mode}}
use Rattle.moo_http_request.specs.{declared.asked.Refusal.TheVariants.{BadRequest, Malformed}, Alone.{alone}}
use Rattle.moo_http_request.specs.{Calls.{Calls, Whole, Bad, calls_from}, Shape.{Shape, shape_of}}

-- what calls that were read ask: to run or ask one batch of them; or, if a text isn't a call, a refusal with its number
abbrev pub calls_asked : Mode → Shape → Calls → Asked
calls_asked mode shape (Whole calls) = asks.Calls mode (record { programmer = shape.programmer; at = shape.at; calls = calls })
calls_asked mode shape (Bad n) = asks.Refused (Malformed n)

-- the batch of a shape, or the number, from 1, of its first text that isn't a call; or a batch of each text
abbrev pub form_asked : Form → Shape → Asked
form_asked (Batch mode) shape = calls_asked mode shape (calls_from 1 shape.calls)
form_asked Each shape = asks.Each (record { at = shape.at; batches = map (alone shape.programmer) shape.calls })

-- the JSON that the bytes are, or none if they aren't text in UTF-8, or that text isn't JSON
abbrev pub IsJson : List ℕ → Option Data → Type 0
IsJson bytes None = IsUtf8 bytes → read bytes ≡ None
IsJson bytes (Some d) = IsUtf8 bytes × (read bytes ≡ Some d)

-- what a body asks: what the shape of its JSON asks, or a bad request if it isn't JSON or has another shape
abbrev pub BodyAsks : Form → List ℕ → Asked → Type 0
BodyAsks form body asked =
    (json : Option Data) × IsJson body json
    × (asked ≡ option_map_or (form_asked form) (option_and_then shape_of json) (asks.Refused BadRequest))
