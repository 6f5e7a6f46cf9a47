use Rattle.moo_props.{proofs.Words.{arith, [], ◌∷◌, sym, ap, ◌∙◌, if◌then◌else◌, world_of}, proofs.Shared.{own_among}, proofs.Descending.{top_walk}, specs.Descent.{descendants}}
use Rattle.moo_props.proofs.descent.subtree_top.Goals as goal

pub returns-then-valid-clause-top : goal.returns-then-valid-clause-top
returns-then-valid-clause-top g c = top_walk (g.R.Rows.held c.args.rows.now).maps c.requires.tree c.args.x (sym c.valid.ensures ∙ c.if-valid.true)

pub returns-then-valid-clause-under : goal.returns-then-valid-clause-under
returns-then-valid-clause-under g c = own_among (g.R.Rows.held c.args.rows.now).maps c.requires.tree c.args.x (sym c.valid.ensures ∙ c.if-valid.true)

pub returns-else-valid-clause-top : goal.returns-else-valid-clause-top
returns-else-valid-clause-top g c = grind arith
