use Rattle.moo_text.{proofs.Shared.{arith, sym}, proofs.Words.{no_words_of, next_word_is}}
use Rattle.moo_text.proofs.line.next_word.Goals as goal

pub returns-then-is_empty : goal.returns-then-is_empty
returns-then-is_empty c = no_words_of c.args.bytes.now c.skip_blanks-start.result.now c.skip_blanks-start.ensures (sym c.if-is_empty.ensures)

pub returns-else-is_empty : goal.returns-else-is_empty
returns-else-is_empty c = grind (arith, next_word_is)
