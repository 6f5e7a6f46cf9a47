use Rattle.std.proofs.Common.{sym}
use Rattle.moo_verbs.proofs.Directories.{shown_at}
use Rattle.moo_verbs.proofs.find.verb.Goals as goal

pub returns : goal.returns
returns g c = sym (shown_at (g.R.Rows.held c.args.rows.now).maps c.requires.sound c.args.x c.args.id c.in-Some.row.now (sym c.in-Some.ensures))
