use Rattle.moo_tables.{proofs.Words.{◌≡◌, None, drop, option_map, pair_of_ints}, proofs.ListedLemmas.{pairs_rise}}
use Rattle.moo_tables.proofs.key_order.are_paired.Given as goal

abbrev pub invariant-loop-row : goal.invariant-loop-row
invariant-loop-row l = pairs_rise None l.rows ≡ pairs_rise (option_map pair_of_ints l.last) (drop l.row-index l.rows)
