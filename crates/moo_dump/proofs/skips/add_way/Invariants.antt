use Rattle.moo_dump.proofs.Words.{AllByRecursion, Maps, LeadsUp, SkipUp}
use Rattle.moo_dump.proofs.skips.add_way.Given as goal

-- each entry so far leads up
abbrev pub invariant-loop-y : goal.invariant-loop-y
invariant-loop-y l = (t : Maps) → SkipUp t l.fn.skips → AllByRecursion (λ y. LeadsUp t y l.above) l.way → SkipUp t l.skips
