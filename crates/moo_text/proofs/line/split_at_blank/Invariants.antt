use Rattle.moo_text.proofs.Shared.{◌≡◌, ◌++◌, drop, take, until_blank, from_blank}
use Rattle.moo_text.proofs.line.split_at_blank.Given as goal

abbrev pub invariant-loop-i : goal.invariant-loop-i
invariant-loop-i l = record {
  front : until_blank l.bytes ≡ take l.i l.bytes ++ until_blank (drop l.i l.bytes);
  back : from_blank (drop l.i l.bytes) ≡ from_blank l.bytes;
}
