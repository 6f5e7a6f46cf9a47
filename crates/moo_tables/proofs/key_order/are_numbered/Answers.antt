use Rattle.moo_tables.{proofs.Words.{rules, ap, option_map, Int, value_cmp, is_int}, proofs.ListedLemmas.{has_number, number_in, goes_on, ends_low, reads_all, numbers_keyed, numbers_not_keyed}}
use Rattle.moo_tables.proofs.key_order.are_numbered.Goals as goal

pub returns-then-not-is_number_above : goal.returns-then-not-is_number_above
returns-then-not-is_number_above c =
    numbers_not_keyed c.args.rows.now
    (ends_low value_cmp has_number number_in c.args.rows.now (option_map Int c.loop-row.last) c.loop-row.row-index c.row-item.result (Int c.in-Some.number) c.loop-row-test.true c.row-item.is c.in-Some.ensures.some (search rules) c.loop-row.invariant)

pub loop-row-preserved : goal.loop-row-preserved
loop-row-preserved c =
    goes_on value_cmp has_number number_in c.args.rows.now (option_map Int c.loop-row.last) c.loop-row.row-index c.row-item.result _ c.loop-row-test.true c.row-item.is (ap is_int c.in-Some.ensures.some) (search rules) (search rules) c.loop-row.invariant

pub returns : goal.returns
returns c = numbers_keyed c.args.rows.now (reads_all value_cmp has_number number_in c.args.rows.now (option_map Int c.loop-row.last) c.loop-row.row-index c.loop-row-test.false c.loop-row.invariant)
