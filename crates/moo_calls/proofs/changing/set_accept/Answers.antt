use Rattle.std.{proofs.Common.{sym, ◌∙◌}, specs.Prelude.{◌&&◌}}
use Rattle.moo_calls.proofs.changing.set_accept.Goals as goal

pub change_row-requires-clause-allowed : goal.change_row-requires-clause-allowed
change_row-requires-clause-allowed g c = λ i. (sym c.is_short.ensures ∙ c.if-not-is_short.false) i && c.requires.numbers i
