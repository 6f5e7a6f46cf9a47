use Rattle.moo_props.{proofs.Words.{arith, FitsSigned, w64, rules, Some, sym, ap, ◌∙◌, to_z-of_z, folded, quota_in, world_of, name_of}, proofs.Cases.{none_of}, proofs.Quotas.{no_quota, no_integer, quota_is}}
use Rattle.moo_props.proofs.quota.quota_here.Goals as goal

pub returns-in-None-clause-quota : goal.returns-in-None-clause-quota
unfolding folded
returns-in-None-clause-quota g c = let m = (g.R.Rows.held c.args.rows.now).maps in sym (no_quota (world_of m) c.requires.formed.tree c.args.o (none_of _ (sym c.in-None.ensures.exact)))

pub returns-in-Int-clause-quota : goal.returns-in-Int-clause-quota
unfolding folded
returns-in-Int-clause-quota g c = grind (arith, to_z-of_z, quota_is)

pub returns-in-Int-clause-named : goal.returns-in-Int-clause-named
unfolding folded
returns-in-Int-clause-named g c = c.in-Some.ensures.named

pub returns-in_default : goal.returns-in_default
unfolding folded
returns-in_default g c = grind (arith, quota_is, no_integer)
