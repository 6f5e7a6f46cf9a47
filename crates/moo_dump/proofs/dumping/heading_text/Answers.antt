use Rattle.moo_dump.proofs.Words.{arith, ◌≡◌, ◌++◌, ℕ, ap, ◌∙◌, rules, codes, state_of, Vec}
use Rattle.moo_dump.proofs.dumping.heading_text.Goals as goal
use Rattle.std.specs.Fmt.{decimal, signed_decimal}
use Rattle.moo_world.specs.Rows.{world_shown}

pub returns : goal.returns
unfolding world_shown
returns g c = grind arith
