-- The laws of chains in a world.
use Rattle.moo_world.{proofs.Words.{◌≡◌, ℕ, ◌<◌, true, false, List, [], ◌∷◌, refl, sym, ◌∙◌, ap, subst, Option, Some, None, arith, ℤ, pos, ◌≤ℤ◌, is_some, option_map, none-some, same_Some, ObjNo, nothing, is_among, World, WorldObject, IsTree, Chain, IsUnder, is_object, parent_of, chain, numbers_to, ◌⊎◌}, proofs.Ancestry.Chains.{Climbs-unique, Climbs-bound, climb_is, NumbersBelow}}

pub assigned : (z top : ℤ) → pos 0 ≤ℤ z → z ≤ℤ top → (n : ℕ) × (z ≡ pos n) × (n < numbers_to top)
assigned z top low high = grind arith

pub linked : (o : Option WorldObject) (f : WorldObject → ObjNo) (next : ObjNo) → option_map f o ≡ Some next → is_some o ≡ true
linked o f next e = grind arith

pub no_link : (o : Option WorldObject) (f : WorldObject → ObjNo) → is_some o ≡ false → option_map f o ≡ None
no_link o f e = grind arith

module _ (w : World) (t : IsTree w) where
  pub nothing_is_no_object : is_object w nothing ≡ false
  nothing_is_no_object = grind arith

  pub no_parent : parent_of w nothing ≡ None
  no_parent = no_link (w.object nothing) (λ r. r.row.parent) nothing_is_no_object

  pub parents_below : NumbersBelow (parent_of w) (numbers_to w.top)
  parents_below x next e = grind arith

  -- the chain is the list that `chain` computes
  pub chain_is : (x : ObjNo) (l : List ObjNo) → Chain w x l → chain w x ≡ l
  unfolding chain
  chain_is x l p = climb_is (parent_of w) no_parent (numbers_to w.top) l x p (Climbs-bound (parent_of w) (numbers_to w.top) no_parent parents_below l x p)

  pub Chain-chain : (x : ObjNo) → is_object w x ≡ true → Chain w x (chain w x)
  Chain-chain x e = let c = t.chains x e in subst (Chain w x) (sym (chain_is x c.0 c.1)) c.1

  pub chain-nothing : chain w nothing ≡ []
  chain-nothing = chain_is nothing [] refl

  pub Chain-either : (q : ObjNo) → (is_object w q ≡ true) ⊎ (q ≡ nothing) → Chain w q (chain w q)
  Chain-either q h = grind (arith, Chain-chain, chain-nothing)

  pub Chain-unique : (x : ObjNo) (l m : List ObjNo) → Chain w x l → Chain w x m → l ≡ m
  Chain-unique x l m p q = Climbs-unique (parent_of w) no_parent l m x p q

  -- to be under x is to have x in one's chain
  pub under_from_among : (y x : ObjNo) → is_object w y ≡ true → is_among x (chain w y) ≡ true → IsUnder w y x
  under_from_among y x e h = (chain w y, Chain-chain y e, h)

  pub among_from_under : (y x : ObjNo) → IsUnder w y x → is_among x (chain w y) ≡ true
  among_from_under y x u = subst (λ l. is_among x l ≡ true) (sym (chain_is y u.0 u.1)) u.2

-- what is no object has no chain but nothing's
pub chain_of_none : (w : World) (x : ObjNo) → is_object w x ≡ false → chain w x ≡ []
unfolding chain
chain_of_none w x e = grind arith

parent_seen : (o : Option WorldObject) (f : WorldObject → ObjNo) (r : WorldObject) → o ≡ Some r → option_map f o ≡ Some (f r)
parent_seen o f r e = ap (option_map f) e

module _ (w : World) (t : IsTree w) where
  -- one step up
  pub chain-step : (x : ObjNo) (r : WorldObject) → w.object x ≡ Some r → chain w x ≡ x ∷ chain w r.row.parent
  chain-step x r e =
      let here : is_object w x ≡ true = ap is_some e in
      let c = Chain-chain w t x here in
      first (chain w x) c
    where
      up : parent_of w x ≡ Some r.row.parent
      up = parent_seen (w.object x) (λ k. k.row.parent) r e

      first : (l : List ObjNo) → Chain w x l → l ≡ x ∷ chain w r.row.parent
      first [] p = absurd (none-some r.row.parent (sym (no_parent w t) ∙ sym (ap (parent_of w) p) ∙ up))
      first (y ∷ l) p =
          let same : p.1 ≡ r.row.parent = same_Some p.1 r.row.parent (sym p.2 ∙ up) in
          let rest : l ≡ chain w r.row.parent = sym (chain_is w t r.row.parent l (subst (λ n. Chain w n l) same p.3)) in
          λ i. sym p.0 i ∷ rest i
