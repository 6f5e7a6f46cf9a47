use Rattle.moo_memory.proofs.Words.{ap, ◌∙◌, get, get-empty, from_entries, object_cmp, tie_cmp, none-may}
use Rattle.moo_memory.proofs.links.Links.new.Goals as goal

pub returns : goal.returns
returns c =
    none-may _ (λ p. ap (λ es. get (from_entries {R = tie_cmp} es) p) c.new.ensures.empty ∙ get-empty tie_cmp p)
    (λ p. ap (λ es. get (from_entries {R = tie_cmp} es) p) c.new-2.ensures.empty ∙ get-empty tie_cmp p)
    (λ p. ap (λ es. get (from_entries {R = object_cmp} es) p) c.new-3.ensures.empty ∙ get-empty object_cmp p)
