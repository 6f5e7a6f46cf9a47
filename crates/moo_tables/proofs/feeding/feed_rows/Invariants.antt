use Rattle.std.proofs.Common.{◌≡◌}
use Rattle.moo_tables.proofs.FeedLemmas.{IsFeeding}
use Rattle.moo_tables.proofs.feeding.feed_rows.Given as goal

abbrev pub invariant-rows : goal.invariant-rows
invariant-rows g l = (l.rows.conn.ghost_name ≡ l.initial.rows.conn.ghost_name) × IsFeeding g.S.Store g.T.TakeRows.took l.sql l.fn.conn l.rows.conn.now l.initial.taker l.taker l.block.items
