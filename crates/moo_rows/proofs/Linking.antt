-- Which objects may have a link, after more are added and some are forgotten.
use Rattle.moo_rows.{proofs.Words.{arith, ◌≡◌, ◌≢◌, Bool, true, false, cond, [], ◌∷◌, Option, None, Some, Ordering, Less, Equal, Greater, is_some, refl, sym, ap, ◌∙◌, tied_itself, eq_by_cmp, is_eq, int_eq, FinMap, get, insert, remove, option_map, ⊤, true≢false, Decides-int_eq, ObjNo, ObjRow, PropId, PropRow, object_exact, prop_exact, tie_exact, Maps, object_cmp, prop_cmp, slot_cmp, LinkSets, tie_cmp, is_kept, is_candidate, may_have, has_link, ties_of, ties_have, row_has, row_defined, is_linked, is_definer, linked_left, defined_left, IsFirst, AreCovered, AreOfDefiners}, specs.declared.row.Ties.{Ties}, specs.declared.row.Link.{Link}, specs.declared.row.Link.TheVariants.{ChildOf, Within, Player}, proofs.Orders.{object_total, prop_total, slot_total, tie_total}, proofs.Firsts.{lacked-insert, lacked-remove, has-insert, first-end, first-step}}
use Rattle.std.proofs.lemmas.Option.{none-some, same_Some}

module _ (s : LinkSets) where
  pub none-may : ((p : ObjNo × ObjNo) → get s.parents p ≡ None) → ((p : ObjNo × ObjNo) → get s.locations p ≡ None) → ((p : ObjNo) → get s.players p ≡ None) → (l : Link) (q : ObjNo) → is_kept s l q ≡ false
  none-may h1 h2 h3 l q = grind arith

  pub more-parents : (new : FinMap tie_cmp ⊤) → ((p : ObjNo × ObjNo) → is_some (get new p) ≡ false → is_some (get s.parents p) ≡ false) → (l : Link) (q : ObjNo) → is_kept (record s { parents = new }) l q ≡ false → is_kept s l q ≡ false
  more-parents new h1 l q h2 = grind arith

  pub more-locations : (new : FinMap tie_cmp ⊤) → ((p : ObjNo × ObjNo) → is_some (get new p) ≡ false → is_some (get s.locations p) ≡ false) → (l : Link) (q : ObjNo) → is_kept (record s { locations = new }) l q ≡ false → is_kept s l q ≡ false
  more-locations new h1 l q h2 = grind arith

  pub more-players : (new : FinMap object_cmp ⊤) → ((p : ObjNo) → is_some (get new p) ≡ false → is_some (get s.players p) ≡ false) → (l : Link) (q : ObjNo) → is_kept (record s { players = new }) l q ≡ false → is_kept s l q ≡ false
  more-players new h1 l q h2 = grind arith

  module _ (key : ObjNo) (stays : Option Ties) where
    pub less-parents : (x : ObjNo) → false ≡ ties_have (ChildOf x) stays → (new : FinMap tie_cmp ⊤) → new ≡ remove s.parents (x, key) → (l : Link) (q : ObjNo) → (q ≡ key → ties_have l stays ≡ true) → is_kept (record s { parents = new }) l q ≡ false → is_kept s l q ≡ false
    less-parents x lacks new is (ChildOf y) q has e =
        lacked-remove tie_total tie_exact s.parents (x, key) (y, q)
        (λ same. true≢false (sym (has (ap (λ p. p.1) same)) ∙ ap (λ (p : ObjNo × ObjNo). ties_have (ChildOf p.0) stays) same ∙ sym lacks))
        (ap (λ m. is_some (get m (y, q))) (sym is) ∙ e)
    less-parents x lacks new is (Within y) q has e = e
    less-parents x lacks new is Player q has e = e

    pub less-locations : (x : ObjNo) → false ≡ ties_have (Within x) stays → (new : FinMap tie_cmp ⊤) → new ≡ remove s.locations (x, key) → (l : Link) (q : ObjNo) → (q ≡ key → ties_have l stays ≡ true) → is_kept (record s { locations = new }) l q ≡ false → is_kept s l q ≡ false
    less-locations x lacks new is (ChildOf y) q has e = e
    less-locations x lacks new is (Within y) q has e =
        lacked-remove tie_total tie_exact s.locations (x, key) (y, q)
        (λ same. true≢false (sym (has (ap (λ p. p.1) same)) ∙ ap (λ (p : ObjNo × ObjNo). ties_have (Within p.0) stays) same ∙ sym lacks))
        (ap (λ m. is_some (get m (y, q))) (sym is) ∙ e)
    less-locations x lacks new is Player q has e = e

    pub less-players : false ≡ ties_have Player stays → (new : FinMap object_cmp ⊤) → new ≡ remove s.players key → (l : Link) (q : ObjNo) → (q ≡ key → ties_have l stays ≡ true) → is_kept (record s { players = new }) l q ≡ false → is_kept s l q ≡ false
    less-players h1 new h2 l q h3 h4 = grind (arith, lacked-remove, object_total, true≢false)

-- who is kept for no link but those that it was kept for may have no others
pub may-as-kept : (old new : LinkSets) (l : Link) (q : ObjNo) → (is_kept new l q ≡ false → is_kept old l q ≡ false) → may_have new l q ≡ false → may_have old l q ≡ false
may-as-kept old new l q kept e = grind arith

-- who is kept for a link may have it
pub kept-may : (sets : LinkSets) (l : Link) (q : ObjNo) → is_kept sets l q ≡ true → may_have sets l q ≡ true
kept-may sets l q kept = grind arith

-- who isn't to be looked at hasn't the link
pub candidate-covers : (objects : FinMap object_cmp ObjRow) (sets : LinkSets) → AreCovered (get objects) sets
    → (l : Link) (q : ObjNo) → is_candidate sets objects l q ≡ false → row_has l (get objects q) ≡ false
candidate-covers objects sets covered l q e = grind (arith, true≢false)

-- ---- links of rows

module _ (row_at row_at' : ObjNo → Option ObjRow) (key : ObjNo) where
  -- a row is put, whose links are among those that may be
  pub covered-put : (old new : LinkSets) (row : ObjRow) → AreCovered row_at old
      → ((l : Link) (q : ObjNo) → (q ≡ key → has_link l (ties_of row) ≡ true) → may_have new l q ≡ false → may_have old l q ≡ false)
      → ((l : Link) → has_link l (ties_of row) ≡ true → may_have new l key ≡ true)
      → ((q : ObjNo) → row_at' q ≡ cond (eq_by_cmp object_cmp q key) (Some row) (row_at q)) → AreCovered row_at' new
  covered-put old new row covered kept there is l q e = ap (row_has l) (is q) ∙ by (object_cmp q key) refl
    where
      linked : q ≡ key → (b : Bool) → has_link l (ties_of row) ≡ b → b ≡ false
      linked same true h = absurd (true≢false (sym (there l h) ∙ ap (may_have new l) (sym same) ∙ e))
      linked same false h = refl

      apart : (o : Ordering) → object_cmp q key ≡ o → is_eq o ≡ false → q ≡ key → has_link l (ties_of row) ≡ true
      apart o c other same = absurd (true≢false (sym (ap is_eq (ap (λ z. object_cmp z key) same ∙ tied)) ∙ ap is_eq c ∙ other))
        where
          tied : object_cmp key key ≡ Equal
          tied = tied_itself object_total key

      by : (o : Ordering) → object_cmp q key ≡ o → row_has l (cond (is_eq o) (Some row) (row_at q)) ≡ false
      by Equal o = linked (object_exact q key o) (has_link l (ties_of row)) refl
      by Less o = covered l q (kept l q (apart Less o refl) e)
      by Greater o = covered l q (kept l q (apart Greater o refl) e)

  -- a row is removed
  pub covered-remove : (old new : LinkSets) → AreCovered row_at old
      → ((l : Link) (q : ObjNo) → (q ≡ key → ties_have l None ≡ true) → may_have new l q ≡ false → may_have old l q ≡ false)
      → ((q : ObjNo) → row_at' q ≡ cond (eq_by_cmp object_cmp q key) None (row_at q)) → AreCovered row_at' new
  covered-remove old new covered kept is l q e = grind (arith, true≢false, tied_itself, object_total)

-- ---- walks

pub linked-end : (t : Maps) (link : Link) (from : ObjNo) → IsFirst object_cmp (is_linked t link) from None → linked_left link from t ≡ []
linked-end t link from h = first-end object_total object_exact (λ r. has_link link (ties_of r)) t.objects from h

pub linked-step : (t : Maps) (link : Link) (from k : ObjNo) (row : ObjRow) → IsFirst object_cmp (is_linked t link) from (Some k) → get t.objects k ≡ Some row → linked_left link from t ≡ (k, row) ∷ linked_left link k t
linked-step t link from k row h held = first-step object_total object_exact (λ r. has_link link (ties_of r)) t.objects from k row h held

pub defined-end : (t : Maps) (x : ObjNo) (from : PropId) → IsFirst prop_cmp (is_definer t x) from None → defined_left x from t ≡ []
defined-end t x from h = first-end prop_total prop_exact (λ r. int_eq r.definer.0 x.0) t.props from h

pub defined-step : (t : Maps) (x : ObjNo) (from k : PropId) (row : PropRow) → IsFirst prop_cmp (is_definer t x) from (Some k) → get t.props k ≡ Some row → defined_left x from t ≡ (k, row) ∷ defined_left x k t
defined-step t x from k row h held = first-step prop_total prop_exact (λ r. int_eq r.definer.0 x.0) t.props from k row h held

-- ---- ties that stay

module _ (l : Link) (row : ObjRow) where
  pub same-there : (o : Option ObjRow) → option_map ties_of o ≡ Some (ties_of row) → has_link l (ties_of row) ≡ true → row_has l o ≡ true
  same-there o h1 h2 = grind (arith, none-some, same_Some)

  pub covered-there : (row_at : ObjNo → Option ObjRow) (sets : LinkSets) (key : ObjNo) → AreCovered row_at sets → option_map ties_of (row_at key) ≡ Some (ties_of row) → has_link l (ties_of row) ≡ true → may_have sets l key ≡ true
  covered-there row_at sets key covered e h = grind (arith, true≢false, same-there)

  pub stays-there : (final added : LinkSets) (key : ObjNo) → (may_have final l key ≡ false → may_have added l key ≡ false) → may_have added l key ≡ true → may_have final l key ≡ true
  stays-there final added key f h = grind (arith, true≢false)

-- ---- properties

module _ (row_at row_at' : PropId → Option PropRow) (key : PropId) where
  pub defined-put : (old new : FinMap slot_cmp ⊤) (row : PropRow) → AreOfDefiners row_at old → new ≡ insert old (row.definer, key) tt
      → ((q : PropId) → row_at' q ≡ cond (eq_by_cmp prop_cmp q key) (Some row) (row_at q)) → AreOfDefiners row_at' new
  defined-put old new row covered put is x q e = ap (row_defined x) (is q) ∙ by (prop_cmp q key) refl
    where
      lacked : is_some (get old (x, q)) ≡ false
      lacked = lacked-insert slot_total old (row.definer, key) tt (x, q) (ap (λ m. is_some (get m (x, q))) (sym put) ∙ e)

      own : q ≡ key → (b : Bool) → int_eq row.definer.0 x.0 ≡ b → b ≡ false
      own same true h =
          let number = (Decides-int_eq row.definer.0 x.0).0 h in
          let pair : (row.definer, key) ≡ (x, q) = λ i. (record { 0 = number i }, sym same i) in
          absurd (true≢false (sym (has-insert slot_total old (row.definer, key) tt) ∙ ap (λ m. is_some (get m (row.definer, key))) (sym put) ∙ ap (λ p. is_some (get new p)) pair ∙ e))
      own same false h = refl

      by : (o : Ordering) → prop_cmp q key ≡ o → row_defined x (cond (is_eq o) (Some row) (row_at q)) ≡ false
      by Equal o = own (prop_exact q key o) (int_eq row.definer.0 x.0) refl
      by Less o = covered x q lacked
      by Greater o = covered x q lacked

  pub defined-remove : (old new : FinMap slot_cmp ⊤) → AreOfDefiners row_at old
      → ((x : ObjNo) (id : PropId) → id ≢ key → is_some (get new (x, id)) ≡ false → is_some (get old (x, id)) ≡ false)
      → ((q : PropId) → row_at' q ≡ cond (eq_by_cmp prop_cmp q key) None (row_at q)) → AreOfDefiners row_at' new
  defined-remove old new covered kept is x q e = grind (arith, true≢false, tied_itself, prop_total)
