-- What a GET asks: the topics, each with its route, and the questions about them.
use Rattle.std.specs.Prelude.{ℕ, List, [], ◌∷◌, Option, Some, codes, drop, option_map}
use Rattle.moo_http_request.specs.declared.question.Question.{Question}
use Rattle.moo_http_request.specs.declared.question.Question.TheVariants as ask
use Rattle.moo_http_request.specs.{declared.question.Topic.{Topic}, declared.question.Topic.TheVariants.{Seq, Object, Objects, Dump}}
use Rattle.moo_http_request.specs.Numbers.{number_of}

-- every topic once
abbrev pub all_topics : List Topic
all_topics = Seq ∷ Object ∷ Objects ∷ Dump ∷ []

-- the paths that name a topic
abbrev pub pattern : Topic → List ℕ
pattern Seq = codes "/seq"
pattern Object = codes "/object/{n}"
pattern Objects = codes "/objects/{n}"
pattern Dump = codes "/dump"

-- a path of each topic, as an example
abbrev pub sample_path : Topic → List ℕ
sample_path Seq = codes "/seq"
sample_path Object = codes "/object/12"
sample_path Objects = codes "/objects/12"
sample_path Dump = codes "/dump"

-- the question that a path of the topic asks; None if it needs a number, and the path has something else there
abbrev pub question_of : Topic → List ℕ → Option Question
question_of Seq path = Some ask.Seq
question_of Object path = option_map (λ n. ask.Object (record { 0 = n })) (number_of (drop 8 path))
question_of Objects path = option_map (λ n. ask.Objects (record { 0 = n })) (number_of (drop 9 path))
question_of Dump path = Some ask.Dump
