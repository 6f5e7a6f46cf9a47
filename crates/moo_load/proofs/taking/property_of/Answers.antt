use Rattle.moo_load.{proofs.Words.{rules, ◌≡◌, false, Some, None, sym, ap, subst, ◌∙◌, get, bytes_eq, false≢true, none-some, same_Some, bytes_eq-Decides, PropId, PropRow, IsFirst, is_definer, prop_cmp, property_row}, proofs.NextOne.{one_first}}
use Rattle.moo_load.proofs.taking.property_of.Goals as goal

pub returns-in_err-id : goal.returns-in_err-id
returns-in_err-id g c id is =
    let m = (g.R.Rows.held c.args.rows.now).maps in
    absurd (none-some id (one_first (is_definer m c.args.slot.now.definer) c.number_before-after.result None id c.in_err-id.ensures (subst (λ (a : PropId). IsFirst prop_cmp (is_definer m c.args.slot.now.definer) a (Some id)) (sym c.number_before-after.ensures) is.next)))

pub returns-in_err-row : goal.returns-in_err-row
returns-in_err-row g c id is =
    let m = (g.R.Rows.held c.args.rows.now).maps in
    let same : Some c.in_ok-id.id ≡ Some id = one_first (is_definer m c.args.slot.now.definer) c.number_before-after.result (Some c.in_ok-id.id) id c.in_ok-id.ensures (subst (λ (a : PropId). IsFirst prop_cmp (is_definer m c.args.slot.now.definer) a (Some id)) (sym c.number_before-after.ensures) is.next) in
    absurd (none-some (property_row (c.args.slot.now.definer, c.args.slot.now.name)) (c.in_err-row.ensures ∙ ap (get m.props) (same_Some c.in_ok-id.id id same) ∙ is.row))

pub returns-then-eq : goal.returns-then-eq
returns-then-eq g c id is =
    let m = (g.R.Rows.held c.args.rows.now).maps in
    one_first (is_definer m c.args.slot.now.definer) c.number_before-after.result (Some c.in_ok-id.id) id c.in_ok-id.ensures (subst (λ (a : PropId). IsFirst prop_cmp (is_definer m c.args.slot.now.definer) a (Some id)) (sym c.number_before-after.ensures) is.next)

pub returns-else-eq : goal.returns-else-eq
returns-else-eq g c id is =
    let m = (g.R.Rows.held c.args.rows.now).maps in
    let same : Some c.in_ok-id.id ≡ Some id = one_first (is_definer m c.args.slot.now.definer) c.number_before-after.result (Some c.in_ok-id.id) id c.in_ok-id.ensures (subst (λ (a : PropId). IsFirst prop_cmp (is_definer m c.args.slot.now.definer) a (Some id)) (sym c.number_before-after.ensures) is.next) in
    let row : c.in_ok-row.row.now ≡ property_row (c.args.slot.now.definer, c.args.slot.now.name) = same_Some _ _ (c.in_ok-row.ensures ∙ ap (get m.props) (same_Some c.in_ok-id.id id same) ∙ is.row) in
    let no : bytes_eq c.in_ok-row.row.now.name c.args.slot.now.name ≡ false = search rules in
    absurd (false≢true (sym no ∙ (bytes_eq-Decides c.in_ok-row.row.now.name c.args.slot.now.name).1 (ap (λ (r : PropRow). r.name) row)))
