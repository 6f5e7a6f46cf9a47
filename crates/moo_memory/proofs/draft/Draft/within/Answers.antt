use Rattle.moo_memory.{proofs.Words.{rules, None, sym, ap, ◌∙◌, unwrap_or, get, get-empty, from_entries, object_cmp, prop_cmp, row_has, row_defined}, proofs.Overlays.{overlaid-none}}
use Rattle.moo_memory.proofs.draft.Draft.within.Goals as goal
use Rattle.std.proofs.lemmas.Option.{none-some}

pub returns-clause-maps : goal.returns-clause-maps
returns-clause-maps g c =
    let below = (g.R.Rows.held c.args.base.now).maps in
    let objects = overlaid-none below.objects c.new.result c.new.ensures.empty in
    let props = overlaid-none below.props c.new-2.result c.new-2.ensures.empty in
    let slots = overlaid-none below.slots c.new-3.result c.new-3.ensures.empty in
    let verbs = overlaid-none below.verbs c.new-4.result c.new-4.ensures.empty in
    let petitions = overlaid-none below.petitions c.new-5.result c.new-5.ensures.empty in
    λ i. record { head = c.head.ensures i; objects = objects i; props = props i; slots = slots i; verbs = verbs i; petitions = petitions i }

pub invariant_of-result : goal.invariant_of-result
invariant_of-result g c = (
  λ link key _ _. ap (λ o. row_has link (unwrap_or o None)) (ap (λ es. get (from_entries {R = object_cmp} es) key) c.new.ensures.empty ∙ get-empty object_cmp key),
  λ x id _. ap (λ o. row_defined x (unwrap_or o None)) (ap (λ es. get (from_entries {R = prop_cmp} es) id) c.new-2.ensures.empty ∙ get-empty prop_cmp id),
  λ id row h. absurd (none-some row (sym (ap (λ o. unwrap_or o None) (ap (λ es. get (from_entries {R = prop_cmp} es) id) c.new-2.ensures.empty ∙ get-empty prop_cmp id)) ∙ h)),
  search rules,
)
