use Rattle.moo_dump.proofs.Words.{◌≡◌, ◌≤◌, ◌-◌, length, take}
use Rattle.moo_dump.proofs.comparing.common_prefix_len.Given as goal

abbrev pub invariant-loop-count : goal.invariant-loop-count
invariant-loop-count l = record {
  first : l.count ≤ length l.a;
  second : l.count ≤ length l.b;
  shared : take l.count l.a ≡ take l.count l.b;
}

abbrev pub decreases-loop-count : goal.decreases-loop-count
decreases-loop-count l = length l.a - l.count
