use Rattle.moo_damage.{proofs.Words.{arith, rules, ◌≡◌}, proofs.Differing.{nowhere}}
use Rattle.moo_damage.proofs.differences.difference.Goals as goal

pub returns-clause-same : goal.returns-clause-same
returns-clause-same g c =
    let a = (g.R.Rows.held c.args.own.now).maps in
    let b = (g.R.Rows.held c.args.found.now).maps in
    let head : a.head ≡ b.head = search rules in
    nowhere a b head c.in_default.ensures c.in_default-first_differing.ensures c.in_default-first_differing-2.ensures c.in_default-first_differing-3.ensures c.in_default-first_differing-4.ensures
