use Rattle.moo_memory.proofs.Words.{rules, ◌∙◌, refl, ⊤, ObjNo}
use Rattle.moo_memory.proofs.links.Links.copy.Goals as goal
use Rattle.std.proofs.lemmas.Map.Entries.{entries_from_clone}
use Rattle.std.specs.FinMap as map

-- clones of equal keys leave equal maps
pub returns : goal.returns
returns c =
    let parents = entries_from_clone _ _ (λ (x y : ObjNo × ObjNo) h. search rules) (λ (x y : ⊤) h. refl) c.self.inside.parents.entries c.in_ok-clone.field-0.entries c.in_ok-clone.ensures.cases in
    let locations = entries_from_clone _ _ (λ (x y : ObjNo × ObjNo) h. search rules) (λ (x y : ⊤) h. refl) c.self.inside.locations.entries c.in_ok-clone-2.field-0.entries c.in_ok-clone-2.ensures.cases in
    let players = entries_from_clone _ _ (λ (x y : ObjNo) h. search rules) (λ (x y : ⊤) h. refl) c.self.inside.players.entries c.in_ok-clone-3.field-0.entries c.in_ok-clone-3.ensures.cases in
    (λ i. record { parents = map.from_entries (parents i); locations = map.from_entries (locations i); players = map.from_entries (players i) }) ∙ c.self.view_is
