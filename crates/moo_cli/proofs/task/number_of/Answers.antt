use Rattle.std.{specs.Str.Parse.{ParsesUnsigned, ExplainsUnsignedError, HasUnsignedDigitsIfOk}}
use Rattle.moo_cli.proofs.MatchLemmas.{number_given}
use Rattle.moo_cli.proofs.task.number_of.Goals as goal
use Rattle.clap.specs.Matches.{found_of}

pub returns : goal.returns
returns c =
    number_given (λ bs r. ParsesUnsigned 32 10 bs r × ExplainsUnsignedError 10 bs r × HasUnsignedDigitsIfOk bs r)
    (λ text n h. (h.0.0, h.0.1)) (λ text e h. h.0) (found_of c.args.matches.now) c.args.id.now c.get_one.result c.get_one.ensures.none c.get_one.ensures.value
