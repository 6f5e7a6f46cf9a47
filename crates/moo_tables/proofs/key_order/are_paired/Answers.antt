use Rattle.moo_tables.{proofs.Words.{rules, ap, option_map, and_from, is_int, pair_cmp, pair_of_ints, has_two_numbers}, proofs.ListedLemmas.{pair_in, both, goes_on, ends_low, reads_all, pairs_keyed, pairs_not_keyed}}
use Rattle.moo_tables.proofs.key_order.are_paired.Goals as goal

pub returns-then-not-is_pair_above : goal.returns-then-not-is_pair_above
returns-then-not-is_pair_above c =
    pairs_not_keyed c.args.rows.now
    (ends_low pair_cmp has_two_numbers pair_in c.args.rows.now (option_map pair_of_ints c.loop-row.last) c.loop-row.row-index c.row-item.result (pair_of_ints c.in-Some.pair) c.loop-row-test.true c.row-item.is
    (both c.row-item.result _ _ c.in-Some.ensures.some.0 c.in-Some.ensures.some.1) (search rules) c.loop-row.invariant)

pub loop-row-preserved : goal.loop-row-preserved
loop-row-preserved c =
    goes_on pair_cmp has_two_numbers pair_in c.args.rows.now (option_map pair_of_ints c.loop-row.last) c.loop-row.row-index c.row-item.result (pair_of_ints c.in-Some.pair) c.loop-row-test.true c.row-item.is
    (and_from _ _ (ap is_int c.in-Some.ensures.some.0) (ap is_int c.in-Some.ensures.some.1)) (both c.row-item.result _ _ c.in-Some.ensures.some.0 c.in-Some.ensures.some.1) (search rules) c.loop-row.invariant

pub returns : goal.returns
returns c = pairs_keyed c.args.rows.now (reads_all pair_cmp has_two_numbers pair_in c.args.rows.now (option_map pair_of_ints c.loop-row.last) c.loop-row.row-index c.loop-row-test.false c.loop-row.invariant)
