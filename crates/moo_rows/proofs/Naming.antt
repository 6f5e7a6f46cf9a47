-- Properties that are kept by their definer and the hash of their name, after more are put and some are removed.
use Rattle.moo_rows.{proofs.Words.{arith, ◌≡◌, ℕ, Bool, true, false, ◌&&◌, cond, List, [], ◌∷◌, Option, None, Some, Ordering, Less, Equal, Greater, is_some, refl, sym, ap, ◌∙◌, tied_itself, eq_by_cmp, int_eq, nat_cmp, ordering_then, FinMap, get, get-insert, insert, ⊤, true≢false, Decides-int_eq, CmpEqualImpliesEq, IsTotalOrder, IsNext, IsFirst, ObjNo, PropId, PropRow, object_exact, prop_exact, prop_cmp, object_cmp}, specs.Named.{Tag, tag_of, tag_cmp, named_cmp, row_named, is_alike, in_lower_case, name_hash, AreByName}, proofs.Orders.{object_total, prop_total}}
use Rattle.std.{proofs.lemmas.Cmp.{on_total, then_total, nat_cmp_total}, proofs.lemmas.Map.Lookups.{exact_pairs, exact_unsigned}, proofs.lemmas.Option.{none-some, same_Some}, specs.List.{fold}}
use Rattle.std.specs.Hash.DefaultHasher as sip
use lib.Pointwise.{bytes_decides}

pub tag_total : IsTotalOrder tag_cmp
tag_total = then_total (on_total (λ (x : Tag). x.0) object_total) (on_total (λ (x : Tag). x.1) nat_cmp_total)

pub named_total : IsTotalOrder named_cmp
named_total = then_total (on_total (λ (x : Tag × PropId). x.0) tag_total) (on_total (λ (x : Tag × PropId). x.1) prop_total)

tag_exact : CmpEqualImpliesEq tag_cmp
tag_exact = exact_pairs object_cmp nat_cmp object_exact exact_unsigned

pub named_exact : CmpEqualImpliesEq named_cmp
named_exact = exact_pairs tag_cmp prop_cmp tag_exact prop_exact

-- names that are alike have one hash
pub one_hash : (a b : List ℕ) → is_alike a b ≡ true → name_hash a ≡ name_hash b
unfolding name_hash
one_hash a b h = ap (λ l. sip.finish (fold (λ state byte. sip.write state (byte ∷ [])) sip.initial l)) ((bytes_decides (in_lower_case a) (in_lower_case b)).0 h)

-- ---- look-ups

-- after a last key none with the tag is past it
pub named-none : {X : Type 0} (m : FinMap named_cmp X) (tag : Tag) (after : PropId) → IsNext m (Some (tag, after)) None → IsFirst prop_cmp (λ q. is_some (get m (tag, q))) after None
named-none m tag after h q past = ap is_some (h (tag, q) (ap (λ o. ordering_then o (prop_cmp after q)) (tied_itself tag_total tag) ∙ past))

module _ {X : Type 0} (m : FinMap named_cmp X) (tag : Tag) (after : PropId) where
  tie : (a b : PropId) → named_cmp (tag, a) (tag, b) ≡ prop_cmp a b
  tie a b = ap (λ o. ordering_then o (prop_cmp a b)) (tied_itself tag_total tag)

  -- a next key with the tag
  pub named-same : (of : Tag) (key : PropId) → of ≡ tag → IsNext m (Some (tag, after)) (Some (of, key)) → IsFirst prop_cmp (λ q. is_some (get m (tag, q))) after (Some key)
  named-same of key same next = grind (arith, tie)

  -- and one without it
  pub named-past : (of : Tag) (key : PropId) → (of ≡ tag → ⊥) → IsNext m (Some (tag, after)) (Some (of, key)) → IsFirst prop_cmp (λ q. is_some (get m (tag, q))) after None
  named-past of key other h q past = ap is_some (h.2 (tag, q) (tie after q ∙ past) (by (tag_cmp tag of) refl h.1))
    where
      by : (o : Ordering) → tag_cmp tag of ≡ o → ordering_then o (prop_cmp after key) ≡ Less → named_cmp (tag, q) (of, key) ≡ Less
      by Less c k = ap (λ o. ordering_then o (prop_cmp q key)) c
      by Equal c k = absurd (other (sym (tag_exact tag of c)))
      by Greater c k = cc

-- who isn't kept for a definer and the hash of a name isn't defined by that one under the name
pub named-covers : (row_at : PropId → Option PropRow) (names : FinMap named_cmp ⊤) → AreByName row_at names
    → (x : ObjNo) (name : List ℕ) (q : PropId) → is_some (get names ((x, name_hash name), q)) ≡ false → row_named x name (row_at q) ≡ false
named-covers row_at names kept x name q lacks = by (row_at q) refl
  where
    both : (r : PropRow) → row_at q ≡ Some r → (d a : Bool) → int_eq r.definer.0 x.0 ≡ d → is_alike r.name name ≡ a → (d && a) ≡ false
    both r e true true d a =
        let number = (Decides-int_eq r.definer.0 x.0).0 d in
        let tag : tag_of r ≡ (x, name_hash name) = λ i. (record { 0 = number i }, one_hash r.name name a i) in
        absurd (true≢false (sym (kept q r e) ∙ ap (λ (t : Tag). is_some (get names (t, q))) tag ∙ lacks))
    both r e true false d a = refl
    both r e false a d _ = refl

    by : (o : Option PropRow) → row_at q ≡ o → row_named x name o ≡ false
    by None e = refl
    by (Some r) e = both r e (int_eq r.definer.0 x.0) (is_alike r.name name) refl refl

-- ---- puts and removals

pub kept-insert : {K X : Type 0} {cmp : K → K → Ordering} → IsTotalOrder cmp → (m : FinMap cmp X) (k : K) (v : X) (q : K) → is_some (get m q) ≡ true → is_some (get (insert m k v) q) ≡ true
kept-insert {cmp} total m k v q h = grind (arith, get-insert)

module _ (row_at row_at' : PropId → Option PropRow) (key : PropId) (old new : FinMap named_cmp ⊤) (kept : AreByName row_at old) where
  -- more are kept, and the rows are as they were
  pub named-more : ((p : Tag × PropId) → is_some (get old p) ≡ true → is_some (get new p) ≡ true) → ((q : PropId) → row_at' q ≡ row_at q) → AreByName row_at' new
  named-more more same id row e = more (tag_of row, id) (kept id row (sym (same id) ∙ e))

  -- another property has the row that it had
  other_row : (o : Option PropRow) → ((q : PropId) → row_at' q ≡ cond (eq_by_cmp prop_cmp q key) o (row_at q)) → (id : PropId) (row : PropRow) → row_at' id ≡ Some row
      → (id ≡ key → o ≡ Some row → is_some (get new (tag_of row, id)) ≡ true)
      → ((id ≡ key → ⊥) → is_some (get old (tag_of row, id)) ≡ true → is_some (get new (tag_of row, id)) ≡ true)
      → is_some (get new (tag_of row, id)) ≡ true
  other_row o is id row e own others = grind (arith, true≢false, tied_itself, prop_total)

  -- a row is put, whose pair is there
  pub named-put : (row : PropRow) → is_some (get new (tag_of row, key)) ≡ true
      → ((p : Tag × PropId) → (p.1 ≡ key → p.0 ≡ tag_of row) → is_some (get old p) ≡ true → is_some (get new p) ≡ true)
      → ((q : PropId) → row_at' q ≡ cond (eq_by_cmp prop_cmp q key) (Some row) (row_at q)) → AreByName row_at' new
  named-put row there stay is id r e = grind (arith, other_row, same_Some)

  -- a row is removed
  pub named-remove : ((p : Tag × PropId) → (p.1 ≡ key → ⊥) → is_some (get old p) ≡ true → is_some (get new p) ≡ true)
      → ((q : PropId) → row_at' q ≡ cond (eq_by_cmp prop_cmp q key) None (row_at q)) → AreByName row_at' new
  named-remove stay is id r e = other_row None is id r e (λ same h. absurd (none-some r h)) (λ apart h. stay (tag_of r, id) apart h)
