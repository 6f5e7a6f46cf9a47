use Rattle.moo_tables.{proofs.ReadLemmas.{lists, only_reads}, proofs.FeedLemmas.{fed_lists}}
use Rattle.moo_tables.proofs.feeding.feed_table.Goals as goal

pub returns-clause-reads : goal.returns-clause-reads
returns-clause-reads g c =
    let fed = c.feed_rows.ensures in
    only_reads c.args.version c.args.table c.requires _ c.query.ensures _ _ fed.survives c.feed_rows.result fed.outside fed.same fed.kept fed.cause

pub returns-clause-taken : goal.returns-clause-taken
returns-clause-taken g c =
    fed_lists g.T.TakeRows.took c.args.taker.now c.feed_rows.new.taker c.feed_rows.result (lists c.args.version c.args.table c.requires _ c.query.ensures _ _) c.feed_rows.ensures.taken
