-- The lines of a reply, and those that answer a batch of a text.
use Rattle.std.specs.{Prelude.{ℕ, List, [], ◌∷◌, ◌++◌, codes}, List.{flat_map}, Fmt.{decimal}}
use Rattle.moo_value.specs.{Literal.{print, name}, declared.code.Code.{Code}, declared.value.Value.{Value}}
use Rattle.moo_text.specs.{declared.reply.Reply.{Reply}, declared.reply.Reply.TheVariants.{Accepted, Refused, Full, Stale, NoMemory}}
use Rattle.moo_text.specs.{declared.reply.Answer.{Answer}, declared.reply.Answer.TheVariants.{Replied, Malformed, Truncated, Fault, Closed}}

-- a value as a literal on a line
abbrev pub answer_line : Value → List ℕ
answer_line v = print v ++ 10 ∷ []

-- `accepted N`, a line for each answer, and `end`
abbrev pub accepted_text : ℕ → List Value → List ℕ
accepted_text seq answers = codes "accepted " ++ (decimal seq ++ 10 ∷ (flat_map answer_line answers ++ codes "end\n"))

-- `refused N E_CODE`: the call, from 1, and its error
abbrev pub refused_text : ℕ → Code → List ℕ
refused_text call code = codes "refused " ++ (decimal call ++ 32 ∷ (name code ++ 10 ∷ []))

-- the lines of a reply
abbrev pub reply_text : Reply → List ℕ
reply_text (Accepted seq answers) = accepted_text seq answers
reply_text (Refused call code) = refused_text call code
reply_text (Full call) = codes "full " ++ (decimal call ++ 10 ∷ [])
reply_text (Stale seq) = codes "stale " ++ (decimal seq ++ 10 ∷ [])
reply_text NoMemory = codes "nomemory\n"

-- the lines that answer a batch of a text
abbrev pub answer_text : Answer → List ℕ
answer_text (Replied reply) = reply_text reply
answer_text (Malformed number) = codes "malformed " ++ (decimal number ++ 10 ∷ [])
answer_text Truncated = codes "truncated\n"
answer_text Fault = codes "fault\n"
answer_text Closed = codes "closed\n"
