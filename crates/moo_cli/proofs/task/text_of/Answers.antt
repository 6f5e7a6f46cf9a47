use Rattle.moo_cli.proofs.MatchLemmas.{text_given}
use Rattle.moo_cli.proofs.task.text_of.Goals as goal
use Rattle.clap.specs.Matches.{found_of}

pub returns : goal.returns
returns c = text_given (found_of c.args.matches.now) c.args.id.now c.get_str.result c.get_str.ensures
