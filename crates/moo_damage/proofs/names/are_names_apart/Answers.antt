use Rattle.moo_damage.{proofs.Words.{arith, rules, ◌≡◌, sym, subst, ap, ◌∙◌, entries, from_entries, get, get-empty, none-some, PropId, PropRow, prop_exact, object_cmp, props_left, prop_total, NamesApart}, proofs.Firsts.{FirstIn, ended, went_on}}
use Rattle.moo_damage.proofs.names.are_names_apart.Goals as goal

pub loop-id-init : goal.loop-id-init
loop-id-init g c = grind (arith, none-some, get-empty)

pub loop-id-preserved : goal.loop-id-preserved
loop-id-preserved g c = grind (arith, went_on)

pub returns-clause-apart : goal.returns-clause-apart
returns-clause-apart g c _ =
    let m = (g.R.Rows.held c.args.rows.now).maps in
    ended (λ id p. NamesApart m p.definer) (λ id p. ⊥) prop_total prop_exact m.props _ c.in-None.ensures.steps.0 c.loop-id.invariant.apart
