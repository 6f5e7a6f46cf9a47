use Rattle.moo_store.{proofs.Words.{state}, proofs.Commits.{commits_cells}}
use Rattle.moo_store.proofs.committing.commit_cells.Goals as goal

pub returns-clause-commits : goal.returns-clause-commits
returns-clause-commits g c =
    commits_cells c.args.cells.now (state g.S.Store c.args.conn.now) (state g.S.Store c.commit_changes.new.conn) c.commit_changes.result (g.met.S.Store.settled c.args.conn.now.store) (g.met.S.Store.settled c.commit_changes.new.conn.store) c.commit_changes.ensures.commits c.commit_changes.ensures.spared
