use Rattle.moo_props.proofs.NamedOnes.{first_own, first_named, first_exact}
use Rattle.moo_props.proofs.finding.find_own_property.Goals as goal

pub returns-clause-own : goal.returns-clause-own
returns-clause-own g c = first_own (g.R.Rows.held c.args.rows.now).maps c.args.y c.args.name.now c.next_named.result c.next_named.ensures

pub returns-clause-named : goal.returns-clause-named
returns-clause-named g c = first_named (g.R.Rows.held c.args.rows.now).maps c.args.y c.args.name.now c.next_named.result c.next_named.ensures

pub returns-clause-exact : goal.returns-clause-exact
returns-clause-exact g c = first_exact (g.R.Rows.held c.args.rows.now).maps c.args.y c.args.name.now c.requires.sound c.next_named.result c.next_named.ensures
