use Rattle.moo_damage.proofs.Words.{arith, false, ap, ◌∙◌, unwrap_or, option_map, PropRow, same_object, same_object-eq}
use Rattle.moo_damage.proofs.checks.defines.Goals as goal

pub returns-in-Some : goal.returns-in-Some
returns-in-Some g c =
    c.eq.ensures ∙ same_object-eq c.in-Some.row.now.definer c.args.key.0
    ∙ ap (λ o. unwrap_or (option_map (λ (p : PropRow). same_object p.definer c.args.key.0) o) false) c.in-Some.ensures
