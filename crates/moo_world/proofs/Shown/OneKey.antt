-- What one put and one removal do to a key.
use Rattle.moo_world.{proofs.Words.{arith, ◌≡◌, ◌⊎◌, Some, None, Ordering, IsTotalOrder, FinMap, get, insert, remove, get-insert, get-remove, CmpEqualImpliesEq}, proofs.Shown.MapLaws.{key-Decides}}

module _ {K X : Type 0} {cmp : K → K → Ordering} (total : IsTotalOrder cmp) (exact : CmpEqualImpliesEq cmp) (m : FinMap cmp X) (k key : K) where
  -- a key is the one that is put, or has its old row
  pub put_or_old : (x : X) → ((key ≡ k) × (get (insert m k x) key ≡ Some x)) ⊎ (get (insert m k x) key ≡ get m key)
  put_or_old x = grind (arith, (key-Decides cmp total exact key k).0, get-insert total m k x key)

  pub none_or_old : (get (remove m k) key ≡ None) ⊎ (get (remove m k) key ≡ get m key)
  none_or_old = grind (arith, get-remove total m k key)
