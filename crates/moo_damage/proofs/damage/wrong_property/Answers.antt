use Rattle.moo_damage.{proofs.Words.{arith, refl, subst, NoDefiner, InRows, IsLeast}, proofs.Searched.{of_prop, definer_least, told}}
use Rattle.moo_damage.proofs.damage.wrong_property.Goals as goal

pub returns-in-Some-clause-first : goal.returns-in-Some-clause-first
returns-in-Some-clause-first g c =
    let m = (g.R.Rows.held c.args.rows.now).maps in
    told m NoDefiner _ _ _ refl c.prop_key.ensures c.requires.before
    (subst (λ o. IsLeast (InRows m NoDefiner) (of_prop o)) c.in-Some.is (definer_least m c.first_undefined.result c.first_undefined.ensures))
