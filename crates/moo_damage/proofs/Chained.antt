-- What has a chain is an object.
use Rattle.moo_damage.proofs.Words.{arith, ◌≡◌, Bool, true, false, refl, sym, ap, ◌∙◌, not, false≢true, ObjNo, World, chain, chain_of_none, is_among, is_object}

pub not_false : (b : Bool) → not b ≡ false → b ≡ true
not_false b h1 = grind (arith, false≢true)

pub chain_object : (w : World) (x d : ObjNo) → is_among d (chain w x) ≡ true → is_object w x ≡ true
chain_object w x d a = grind (arith, false≢true, chain_of_none)
