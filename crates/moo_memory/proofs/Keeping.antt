-- Who is kept for a link after more are kept and some are forgotten: nobody but who has it.
use Rattle.moo_memory.proofs.Words.{arith, ◌≡◌, ◌≢◌, Bool, true, false, cond, ◌||◌, Option, None, Some, Less, Equal, Greater, Ordering, is_some, refl, sym, ap, ◌∙◌, eq_by_cmp, is_eq, FinMap, get, insert, get-insert, get-remove, ObjNo, LinkSets, object_cmp, object_exact, object_total, tie_cmp, tie_total, AreCovered, is_kept, may_have, is_to_nothing, has_link, row_has, ties_have, ties_of, ⊤}
use Rattle.moo_memory.specs.Forgotten.{AddsOnly, Forgets, ForgetsOnly, KeepsNoOther}
use Rattle.std.{specs.Prelude.{◌⊎◌, OnErr, OnOk}, specs.Option.{option_map}, specs.FinMap.{remove}, proofs.Common.{Result, Ok, Err, inl, inr}, specs.Cmp.{IsTotalOrder, tied_itself}, proofs.lemmas.Bool.{true≢false}, proofs.lemmas.Map.Lookups.{CmpEqualImpliesEq}}
use Rattle.moo_rows.{specs.Exact.{tie_exact}, specs.declared.row.ObjRow.{ObjRow}, specs.declared.row.Ties.{Ties}, specs.declared.row.Link.{Link}, specs.declared.row.Link.TheVariants.{ChildOf, Within, Player}}

-- ---- one map

-- keys that aren't compared as equal differ
pub differs : {K : Type 0} {cmp : K → K → Ordering} → IsTotalOrder cmp → (q k : K) → is_eq (cmp q k) ≡ false → q ≢ k
differs {cmp = cmp} total q k other same = true≢false (sym (ap is_eq (ap (λ z. cmp z k) same ∙ tied_itself total k)) ∙ other)

module _ {K X : Type 0} {cmp : K → K → Ordering} (total : IsTotalOrder cmp) (exact : CmpEqualImpliesEq cmp) where
  -- a key that is there was there, or was put
  pub had-insert : (m : FinMap cmp X) (k : K) (v : X) (q : K) → is_some (get (insert m k v) q) ≡ true → (is_some (get m q) ≡ true) ⊎ (q ≡ k)
  had-insert m k v q h = grind (arith, get-insert)

  -- the same if there may be no memory for it
  pub had-put : {U E : Type 0} (r : Result U E) (old new : FinMap cmp X) (k : K) (v : X) → OnOk r (new ≡ insert old k v) → OnErr r (new ≡ old)
      → (q : K) → is_some (get new q) ≡ true → (is_some (get old q) ≡ true) ⊎ (q ≡ k)
  had-put (Ok u) old new k v ok err q h = had-insert old k v q (ap (λ m. is_some (get m q)) (sym ok) ∙ h)
  had-put (Err e) old new k v ok err q h = inl (ap (λ m. is_some (get m q)) (sym err) ∙ h)

  -- a key that is there was there, and isn't the one that was removed
  pub had-removed : (m : FinMap cmp X) (k : K) (q : K) → is_some (get (remove m k) q) ≡ true → (is_some (get m q) ≡ true) × (q ≢ k)
  had-removed m k q h = grind (arith, get-remove, true≢false, differs)

-- ---- one link

-- nobody more is kept, but the object for the link
abbrev pub KeepsAlso : Link → ObjNo → (old new : LinkSets) → Type 0
KeepsAlso link key old new = (l : Link) (q : ObjNo) → is_kept new l q ≡ true → (is_kept old l q ≡ true) ⊎ ((q ≡ key) × ((l ≡ link) × (is_to_nothing l ≡ false)))

module _ (before s : LinkSets) (same : s ≡ before) (link : Link) (key : ObjNo) (something : is_to_nothing link ≡ false) where
  was : (l : Link) (q : ObjNo) → is_kept s l q ≡ true → is_kept before l q ≡ true
  was l q h = ap (λ sets. is_kept sets l q) (sym same) ∙ h

  -- what the link is, is known from the pair
  one : (l l' : Link) → l ≡ l' → l' ≡ link → (l ≡ link) × (is_to_nothing l ≡ false)
  one l l' is is' = (is ∙ is', ap is_to_nothing (is ∙ is') ∙ something)

  pub also-parents : (x : ObjNo) → link ≡ ChildOf x → (new : FinMap tie_cmp ⊤) → ((p : ObjNo × ObjNo) → is_some (get new p) ≡ true → (is_some (get s.parents p) ≡ true) ⊎ (p ≡ (x, key))) → KeepsAlso link key before (record s { parents = new })
  also-parents x is new h (ChildOf y) q e = elim (h (y, q) e) [ inl a ↦ inl (was (ChildOf y) q a) | inr pair ↦ inr (ap (λ p. p.1) pair, one (ChildOf y) (ChildOf x) (ap (λ (p : ObjNo × ObjNo). ChildOf p.0) pair) (sym is)) ]
  also-parents x is new h (Within y) q e = inl (was (Within y) q e)
  also-parents x is new h Player q e = inl (was Player q e)

  pub also-locations : (x : ObjNo) → link ≡ Within x → (new : FinMap tie_cmp ⊤) → ((p : ObjNo × ObjNo) → is_some (get new p) ≡ true → (is_some (get s.locations p) ≡ true) ⊎ (p ≡ (x, key))) → KeepsAlso link key before (record s { locations = new })
  also-locations x is new h (ChildOf y) q e = inl (was (ChildOf y) q e)
  also-locations x is new h (Within y) q e = elim (h (y, q) e) [ inl a ↦ inl (was (Within y) q a) | inr pair ↦ inr (ap (λ p. p.1) pair, one (Within y) (Within x) (ap (λ (p : ObjNo × ObjNo). Within p.0) pair) (sym is)) ]
  also-locations x is new h Player q e = inl (was Player q e)

  pub also-players : link ≡ Player → (new : FinMap object_cmp ⊤) → ((p : ObjNo) → is_some (get new p) ≡ true → (is_some (get s.players p) ≡ true) ⊎ (p ≡ key)) → KeepsAlso link key before (record s { players = new })
  also-players is new h (ChildOf y) q e = inl (was (ChildOf y) q e)
  also-players is new h (Within y) q e = inl (was (Within y) q e)
  also-players is new h Player q e = elim (h q e) [ inl a ↦ inl (was Player q a) | inr pair ↦ inr (pair, one Player Player refl (sym is)) ]

-- nobody more is kept, and the object for this link only if it stays
abbrev pub ForgetsOne : Link → ObjNo → Option Ties → (old new : LinkSets) → Type 0
ForgetsOne link key stays old new =
    (l : Link) (q : ObjNo) → is_kept new l q ≡ true → (is_kept old l q ≡ true) × (q ≡ key → l ≡ link → is_to_nothing l ≡ false → ties_have l stays ≡ true)

module _ (before s : LinkSets) (same : s ≡ before) (link : Link) (key : ObjNo) (stays : Option Ties) where
  stood : (l : Link) (q : ObjNo) → is_kept s l q ≡ true → is_kept before l q ≡ true
  stood l q h = ap (λ sets. is_kept sets l q) (sym same) ∙ h

  pair : (a b c d : ObjNo) → a ≡ b → c ≡ d → ◌≡◌ {A = ObjNo × ObjNo} (a, c) (b, d)
  pair a b c d left right = λ i. (left i, right i)

  pub gone-parents : (x : ObjNo) → link ≡ ChildOf x → (new : FinMap tie_cmp ⊤) → new ≡ remove s.parents (x, key) → ForgetsOne link key stays before (record s { parents = new })
  gone-parents x is new removed (ChildOf y) q e =
      let had = had-removed tie_total tie_exact s.parents (x, key) (y, q) (ap (λ m. is_some (get m (y, q))) (sym removed) ∙ e) in
      (stood (ChildOf y) q had.0, λ here it _. absurd (had.1 (pair y x q key (let kind : ChildOf y ≡ ChildOf x = it ∙ is in cc) here)))
  gone-parents x is new removed (Within y) q e = (stood (Within y) q e, λ here it _. absurd (let kind : Within y ≡ ChildOf x = it ∙ is in cc))
  gone-parents x is new removed Player q e = (stood Player q e, λ here it _. absurd (let kind : Player ≡ ChildOf x = it ∙ is in cc))

  pub gone-locations : (x : ObjNo) → link ≡ Within x → (new : FinMap tie_cmp ⊤) → new ≡ remove s.locations (x, key) → ForgetsOne link key stays before (record s { locations = new })
  gone-locations x is new removed (ChildOf y) q e = (stood (ChildOf y) q e, λ here it _. absurd (let kind : ChildOf y ≡ Within x = it ∙ is in cc))
  gone-locations x is new removed (Within y) q e =
      let had = had-removed tie_total tie_exact s.locations (x, key) (y, q) (ap (λ m. is_some (get m (y, q))) (sym removed) ∙ e) in
      (stood (Within y) q had.0, λ here it _. absurd (had.1 (pair y x q key (let kind : Within y ≡ Within x = it ∙ is in cc) here)))
  gone-locations x is new removed Player q e = (stood Player q e, λ here it _. absurd (let kind : Player ≡ Within x = it ∙ is in cc))

  pub gone-players : link ≡ Player → (new : FinMap object_cmp ⊤) → new ≡ remove s.players key → ForgetsOne link key stays before (record s { players = new })
  gone-players is new removed (ChildOf y) q e = (stood (ChildOf y) q e, λ here it _. absurd (let kind : ChildOf y ≡ Player = it ∙ is in cc))
  gone-players is new removed (Within y) q e = (stood (Within y) q e, λ here it _. absurd (let kind : Within y ≡ Player = it ∙ is in cc))
  gone-players is new removed Player q e =
      let had = had-removed object_total object_exact s.players key q (ap (λ m. is_some (get m q)) (sym removed) ∙ e) in
      (stood Player q had.0, λ here it _. absurd (had.1 here))

-- ---- rows

-- whether ties of a row have a link is whether the row has it
ties-row : (l : Link) (o : Option ObjRow) → ties_have l (option_map ties_of o) ≡ row_has l o
ties-row l o = grind arith

module _ (row_at row_at' : ObjNo → Option ObjRow) (key : ObjNo) (old : LinkSets) (before : KeepsNoOther row_at old) where
  -- what an object has that was kept for a link
  had_link : (l : Link) (q : ObjNo) → is_kept old l q ≡ true → q ≡ key → ties_have l (option_map ties_of (row_at key)) ≡ true
  had_link l q e here = ties-row l (row_at key) ∙ ap (λ x. row_has l (row_at x)) (sym here) ∙ (before l q e).1

  -- the row of the key is another, or none
  other-row : (new : LinkSets) (o : Option ObjRow)
      → ((l : Link) (q : ObjNo) → is_kept new l q ≡ true → (is_to_nothing l ≡ false) × ((q ≡ key → ties_have l (option_map ties_of o) ≡ true) × (q ≢ key → is_kept old l q ≡ true)))
      → ((q : ObjNo) → row_at' q ≡ cond (eq_by_cmp object_cmp q key) o (row_at q)) → KeepsNoOther row_at' new
  other-row new o kept is l q e = ((kept l q e).0, ap (row_has l) (is q) ∙ by (object_cmp q key) refl)
    where
      by : (c : Ordering) → object_cmp q key ≡ c → row_has l (cond (is_eq c) o (row_at q)) ≡ true
      by Equal c = sym (ties-row l o) ∙ ((kept l q e).1).0 (object_exact q key c)
      by Less c = (before l q (((kept l q e).1).1 (differs object_total q key (ap is_eq c)))).1
      by Greater c = (before l q (((kept l q e).1).1 (differs object_total q key (ap is_eq c)))).1

  -- a row with the same ties is put
  pub same-other : (row : ObjRow) → option_map ties_of (row_at key) ≡ Some (ties_of row)
      → ((q : ObjNo) → row_at' q ≡ cond (eq_by_cmp object_cmp q key) (Some row) (row_at q)) → KeepsNoOther row_at' old
  same-other row same is = other-row old (Some row) (λ l q e. ((before l q e).0, ((λ here. sym (ap (ties_have l) same) ∙ had_link l q e here), λ _. e))) is

  -- a row is put, and its links are kept in place of those of the row before
  pub put-other : (mid new : LinkSets) (row : ObjRow) → AddsOnly key (ties_of row) old mid → Forgets key (option_map ties_of (row_at key)) (Some (ties_of row)) mid new
      → ((q : ObjNo) → row_at' q ≡ cond (eq_by_cmp object_cmp q key) (Some row) (row_at q)) → KeepsNoOther row_at' new
  put-other mid new row adds forgets is = other-row new (Some row) kept is
    where
      kept : (l : Link) (q : ObjNo) → is_kept new l q ≡ true → (is_to_nothing l ≡ false) × ((q ≡ key → has_link l (ties_of row) ≡ true) × (q ≢ key → is_kept old l q ≡ true))
      kept l q e =
          let gone = forgets l q e in
          elim (adds l q gone.0) [
            | inl was ↦ ((before l q was).0, ((λ here. gone.1 here (before l q was).0 (had_link l q was here)), λ _. was))
            | inr own ↦ ((own.1).0, ((λ _. (own.1).1), λ other. absurd (other own.0)))
          ]

  -- there was no memory for all its links: the row before is put back, and the links that were added go
  pub back-other : (mid new : LinkSets) (ties : Ties) → AddsOnly key ties old mid → Forgets key (Some ties) (option_map ties_of (row_at key)) mid new → KeepsNoOther row_at new
  back-other mid new ties adds forgets l q e =
      let gone = forgets l q e in
      elim (adds l q gone.0) [
        | inl was ↦ before l q was
        | inr own ↦ ((own.1).0, ap (λ x. row_has l (row_at x)) own.0 ∙ sym (ties-row l (row_at key)) ∙ gone.1 own.0 (own.1).0 (own.1).1)
      ]

  -- a row is removed
  pub remove-other : (new : LinkSets) → Forgets key (option_map ties_of (row_at key)) None old new
      → ((q : ObjNo) → row_at' q ≡ cond (eq_by_cmp object_cmp q key) None (row_at q)) → KeepsNoOther row_at' new
  remove-other new forgets is = other-row new None (λ l q e. let gone = forgets l q e in ((before l q gone.0).0, ((λ here. gone.1 here (before l q gone.0).0 (had_link l q gone.0 here)), λ _. gone.0))) is

-- the same: whoever has a link still may, once the row before is back and the links that were added are gone
pub back-covered : (row_at : ObjNo → Option ObjRow) (key : ObjNo) (old mid new : LinkSets) → AreCovered row_at old
    → ((l : Link) (q : ObjNo) → may_have mid l q ≡ false → may_have old l q ≡ false) → ForgetsOnly key (option_map ties_of (row_at key)) mid new → AreCovered row_at new
back-covered row_at key old mid new covered more forgets l q e = grind (arith, ties-row, differs)

-- an object is kept for a link exactly if it has it
pub kept-exactly : (row_at : ObjNo → Option ObjRow) (sets : LinkSets) → AreCovered row_at sets → KeepsNoOther row_at sets
    → (l : Link) → is_to_nothing l ≡ false → (q : ObjNo) → is_kept sets l q ≡ row_has l (row_at q)
kept-exactly row_at sets covered no_other l something q = by (is_kept sets l q) refl
  where
    by : (b : Bool) → is_kept sets l q ≡ b → b ≡ row_has l (row_at q)
    by true kept = sym (no_other l q kept).1
    by false lacks = sym (covered l q (ap (λ b. b || is_kept sets l q) something ∙ lacks))
