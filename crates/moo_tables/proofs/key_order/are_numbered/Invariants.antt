use Rattle.moo_tables.{proofs.Words.{◌≡◌, None, drop, option_map, Int}, proofs.ListedLemmas.{numbers_rise}}
use Rattle.moo_tables.proofs.key_order.are_numbered.Given as goal

abbrev pub invariant-loop-row : goal.invariant-loop-row
invariant-loop-row l = numbers_rise None l.rows ≡ numbers_rise (option_map Int l.last) (drop l.row-index l.rows)
