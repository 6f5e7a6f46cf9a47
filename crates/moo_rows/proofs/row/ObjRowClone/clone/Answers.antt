use Rattle.moo_rows.{proofs.Words.{◌≡◌, Option, None, Some, List, ObjNo, refl, ⊤}, specs.SameRows.{text_clone, list_clone}}
use Rattle.moo_rows.specs.contracts.row.ObjListClone.TheImpl as list
use Rattle.moo_rows.proofs.row.ObjRowClone.clone.Goals as goal

-- what a clone of a list, if there is one, says
abbrev IsCloneOfAny : Option (List ObjNo) → Option (List ObjNo) → Type 0
IsCloneOfAny a b =
    (elim a as (λ _. Option (List ObjNo) → Type 0) [
      | None ↦ λ o. elim o as (λ _. Type 0) [ None ↦ ⊤ | Some y ↦ ⊥ ]
      | Some x ↦ λ o. elim o as (λ _. Type 0) [ None ↦ ⊥ | Some y ↦ list.ghosts.is_clone x y ]
    ]) b

accept_clone : (a b : Option (List ObjNo)) → IsCloneOfAny a b → b ≡ a
accept_clone None None h = refl
accept_clone (Some a) (Some b) h = let same = list_clone a b h in λ i. Some (same i)
accept_clone None (Some b) h = absurd h
accept_clone (Some a) None h = absurd h

pub returns : goal.returns
returns c =
    let name = text_clone c.args.self.now.name c.in_ok-name.name c.in_ok-name.ensures.cases in
    let accept = accept_clone c.args.self.now.accept c.in_ok-accept.accept c.in_ok-accept.ensures.cases in
    record { cases = λ i. record c.args.self.now { name = name i; accept = accept i } }
