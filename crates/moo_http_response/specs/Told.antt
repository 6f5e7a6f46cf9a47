-- What a question is told at a state, and the status, the kind and the body of that.
use Rattle.std.specs.{Prelude.{⊤}, Option.{option_map_or}}
use Rattle.moo_world.specs.Judge.{State}
use Rattle.moo_dump.specs.{Look.{look_of}, Dump.{dump}}
use Rattle.moo_http_request.specs.declared.question.Question.{Question}
use Rattle.moo_http_request.specs.declared.question.Question.TheVariants.{Seq, Object, Objects, Dump}
use Rattle.moo_http_response.specs.declared.told.Told.{Told}
use Rattle.moo_http_response.specs.declared.told.Told.TheVariants as told
use Rattle.moo_http_response.specs.Pages.{page_of}

-- what a question is told at a state; of an object NoObject if no object has the number
abbrev pub told_of : Question → State → Told
told_of Seq s = told.Seq s.seq
told_of (Object n) s = option_map_or told.Object (look_of s.world n) told.NoObject
told_of (Objects n) s = told.Objects (page_of s.world n) s.seq
told_of Dump s = told.Dump (dump s)

-- telling takes memory, which may run out: of all but the number of accepted batches
abbrev pub TellingTakesMemory : Question → Type 0
TellingTakesMemory Seq = ⊥
TellingTakesMemory question = ⊤
