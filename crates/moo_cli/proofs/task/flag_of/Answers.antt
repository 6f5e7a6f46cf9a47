use Rattle.std.proofs.Common.{ap, sym, ◌∙◌}
use Rattle.clap.specs.Matches.{found_of}
use Rattle.moo_cli.proofs.MatchLemmas.{says_true, set_given}
use Rattle.moo_cli.proofs.task.flag_of.Goals as goal

pub returns-in-Some : goal.returns-in-Some
returns-in-Some c = c.eq.ensures ∙ sym (ap says_true c.in-Some.is) ∙ set_given (found_of c.args.matches.now) c.args.id.now c.get_str.result c.get_str.ensures

pub returns-in-None : goal.returns-in-None
returns-in-None c = sym (ap says_true c.in-None.is) ∙ set_given (found_of c.args.matches.now) c.args.id.now c.get_str.result c.get_str.ensures
