use Rattle.moo_text.{proofs.Shared.{◌≡◌, ◌++◌, take, flat_map}, specs.Replies.{answer_line}}
use Rattle.moo_text.proofs.reply.put_answers.Given as goal

abbrev pub invariant-loop-value : goal.invariant-loop-value
invariant-loop-value l = l.out.items ≡ l.fn.out.items ++ flat_map answer_line (take l.value-index l.values)
