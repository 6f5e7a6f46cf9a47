use Rattle.moo_text.proofs.Reading.{name_is}
use Rattle.moo_text.proofs.call_text.call_name_of.Goals as goal

pub returns : goal.returns
returns c = name_is c.args.word.now c.read.result c.read.ensures.one
