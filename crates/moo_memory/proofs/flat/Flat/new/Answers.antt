use Rattle.moo_memory.proofs.Words.{sym, ap, ◌∙◌, get, get-empty, from_entries, object_cmp, prop_cmp, slot_cmp, named_cmp, tag_of, row_has}
use Rattle.moo_memory.proofs.Keys.{keys-of-nothing}
use Rattle.moo_rows.specs.declared.row.PropRow.{PropRow}
use Rattle.moo_memory.proofs.flat.Flat.new.Goals as goal
use Rattle.std.proofs.lemmas.Bool.{true≢false}

pub invariant_of-result : goal.invariant_of-result
invariant_of-result c = (
  λ link key _. ap (row_has link) (ap (λ es. get (from_entries {R = object_cmp} es) key) c.new.ensures.empty ∙ get-empty object_cmp key),
  keys-of-nothing (λ (row : PropRow). row.definer) _ _ (λ id. ap (λ es. get (from_entries {R = prop_cmp} es) id) c.new-2.ensures.empty ∙ get-empty prop_cmp id) (λ k. ap (λ es. get (from_entries {R = slot_cmp} es) k) c.new-7.ensures.empty ∙ get-empty slot_cmp k),
  keys-of-nothing tag_of _ _ (λ id. ap (λ es. get (from_entries {R = prop_cmp} es) id) c.new-2.ensures.empty ∙ get-empty prop_cmp id) (λ k. ap (λ es. get (from_entries {R = named_cmp} es) k) c.new-8.ensures.empty ∙ get-empty named_cmp k),
  λ link x e. absurd (true≢false (sym e ∙ c.new-6.ensures link x)),
)
