-- What is read off the objects' rows, as lists of the world.
use Rattle.moo_tree.proofs.Words.{◌≡◌, Bool, true, List, [], ◌∷◌, map, Some, Less, refl, sym, ap, ◌∙◌, arith, pos, negsuc, ◌≤ℤ◌, is_some, int_cmp_is, entries, entries_sorted, get-entries, filter, AllByRecursion, is_lt, ObjNo, ChildOf, Within, Player, ObjRow, has_link, linked_left, ties_of, Maps, object_cmp, object_total, children_of, contents_of, objects_of, players_of, subtree_of, nothing, same_object, is_among, same_object-eq, look_ups, world_of, IsTree, is_object, row_passes, chain, is_object_seen}
use Rattle.std.{specs.FinMap.{find}, proofs.lemmas.Int.{ints}}
use Rattle.moo_rows.{specs.declared.row.Link.{Link}}
use Rattle.moo_world.{proofs.Shown.EntriesInOrder.{all_weaker, filter_alike, own_entries}, proofs.Shown.ObjectEntries.{objects_passing, rows_passing}}

all_pass : {A : Type 0} (l : List A) → filter (λ a. true) l ≡ l
all_pass [] = refl
all_pass (a ∷ l) = ap (λ m. a ∷ m) (all_pass l)

module _ (t : Maps) (tree : IsTree (world_of t)) where
  -- every object is past #-1
  all_past : AllByRecursion (λ e. is_lt (object_cmp nothing e.0) ≡ true) (entries t.objects)
  all_past =
      all_weaker (λ e. find object_cmp e.0 (entries t.objects) ≡ Some e.1) (λ e. is_lt (object_cmp nothing e.0) ≡ true) past (entries t.objects)
      (own_entries object_cmp object_total (entries t.objects) (entries_sorted t.objects))
    where
      past : (e : ObjNo × ObjRow) → find object_cmp e.0 (entries t.objects) ≡ Some e.1 → is_lt (object_cmp nothing e.0) ≡ true
      past e h =
          let there : is_object (world_of t) e.0 ≡ true = is_object_seen (look_ups t) e.0 ∙ ap is_some (get-entries t.objects e.0 ∙ h) in
          let from : pos 0 ≤ℤ e.0.0 = (tree.numbers e.0 there).0 in
          ap is_lt (sym (int_cmp_is (negsuc 0) e.0.0 Less (omega (arith, ints))))

  -- so a walk from there on meets all that have a link
  left_whole : (link : Link) → linked_left link nothing t ≡ filter (λ e. has_link link (ties_of e.1)) (entries t.objects)
  left_whole link = ap (filter (λ e. has_link link (ties_of e.1))) (filter_alike (λ e. is_lt (object_cmp nothing e.0)) (λ e. true) (entries t.objects) all_past ∙ all_pass (entries t.objects))

  -- as lists of the world, where the link is a test of the row
  linked_listed : (link : Link) (test : ObjRow → Bool) → ((r : ObjRow) → has_link link (ties_of r) ≡ test r) → map (λ e. e.0) (linked_left link nothing t) ≡ filter (row_passes test (world_of t)) (objects_of (world_of t))
  linked_listed link test same = grind (arith, left_whole, rows_passing)

  pub children_listed : (x : ObjNo) → map (λ e. e.0) (linked_left (ChildOf x) nothing t) ≡ children_of (world_of t) x
  children_listed x = linked_listed (ChildOf x) (λ r. same_object x r.parent) (λ r. same_object-eq x r.parent)

  pub contents_listed : (x : ObjNo) → map (λ e. e.0) (linked_left (Within x) nothing t) ≡ contents_of (world_of t) x
  contents_listed x = linked_listed (Within x) (λ r. same_object x r.location) (λ r. same_object-eq x r.location)

  pub players_listed : map (λ e. e.0) (linked_left Player nothing t) ≡ players_of (world_of t)
  players_listed = linked_listed Player (λ r. r.player) (λ r. refl)

  pub subtree_listed : (x : ObjNo) → map (λ e. e.0) (filter (λ e. is_among x (chain (world_of t) e.0)) (entries t.objects)) ≡ subtree_of (world_of t) x
  subtree_listed x = sym (objects_passing t tree (λ y. is_among x (chain (world_of t) y)))
