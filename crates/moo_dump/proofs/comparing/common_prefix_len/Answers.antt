use Rattle.moo_dump.proofs.Words.{sym, ◌∙◌, arith}
use Rattle.moo_dump.proofs.comparing.common_prefix_len.Goals as goal
use Rattle.std.{proofs.lemmas.List.{take_more_same}, proofs.lemmas.Option.{same_Some, slice_get-get_or}}

pub loop-count-preserved : goal.loop-count-preserved
loop-count-preserved c = grind (arith, take_more_same)

pub returns-then-a-count-clause-longest : goal.returns-then-a-count-clause-longest
returns-then-a-count-clause-longest c within same = grind (arith, same_Some, slice_get-get_or)
