-- The body that tells what calls are answered, each alone, as JSON.
use Rattle.std.specs.Prelude.{ℕ, List, [], ◌∷◌, Option, Some, None, codes, drop}
use Rattle.serde_json.specs.{Data.{Data, unsigned, number, string, array, object, null, member, no_members}, View.{items_of}}
use Rattle.moo_value.specs.{declared.value.Value.{Value}, Literal.{name, print}}
use Rattle.moo_text.specs.{declared.reply.Reply.{Reply}, declared.reply.Reply.TheVariants.{Accepted, Refused, Full, Stale, NoMemory}}
use Rattle.moo_http_response.specs.{Bodies.{error_body}, Whys.{first_why}}

-- the first answer as its printed literal, or null
abbrev pub first_answer : List Value → Data
first_answer [] = null
first_answer (answer ∷ answers) = string (print answer)

-- the reply to a call alone: its answer, or an error and why, if that is told
abbrev pub reply_body : Option (List ℕ) → Reply → Data
reply_body why (Accepted seq answers) = object (member (codes "answer") (first_answer answers) no_members)
reply_body why (Refused call code) = error_body why (name code)
reply_body why (Full call) = error_body why (codes "full")
reply_body why (Stale seq) = error_body None (codes "stale")
reply_body why NoMemory = error_body None (codes "nomemory")

-- the reply to a text alone, or that the text isn't a call, and why, if that is told
abbrev pub alone_body : Option (List ℕ) → Option Reply → Data
alone_body why None = error_body why (codes "malformed")
alone_body why (Some reply) = reply_body why reply

-- the replies to texts alone, each with the sentence in its place
abbrev pub each_items : List (Option (List ℕ)) → List (Option Reply) → List Data
each_items whys [] = []
each_items whys (reply ∷ replies) = alone_body (first_why whys) reply ∷ each_items (drop 1 whys) replies

-- the replies to texts alone, and the number of accepted batches
abbrev pub each_body : List (Option (List ℕ)) → List (Option Reply) → ℕ → Data
each_body whys replies seq = object (member (codes "each") (array (items_of (each_items whys replies))) (member (codes "seq") (number (unsigned seq)) no_members))
