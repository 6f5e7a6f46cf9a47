-- What the walk over the verbs of an object finds, by places in the directory.
use Rattle.moo_verbs.{proofs.Words.{arith, ◌≡◌, ℕ, ◌+◌, Bool, true, not, cond, Option, None, Some, List, [], ◌∷◌, map, refl, sym, ap, ◌∙◌, subst, is_some, slice_get, IfSome, option_map, position_or_len, ObjNo, VerbId, VerbRow, Maps, verbs_of_left, IsSound, world_of, directory_of, has_verb, verb_place}, proofs.Entries.{Entry, row_at, made, by_number, walked, verbs_shown}, proofs.Numbering.{placed, made_at, map-made}}
use Rattle.std.{specs.List.{find}, proofs.lemmas.List.Folds.{find_at}}
use Rattle.moo_world.specs.Descriptors.{place_within}

map_twice : {A B C : Type 0} (f : B → C) (h : A → B) (o : Option A) → option_map f (option_map h o) ≡ option_map (λ a. f (h a)) o
map_twice f h o = grind arith

position_of_map : {A B : Type 0} (f : A → B) (test : B → Bool) (l : List A) → position_or_len test (map f l) ≡ position_or_len (λ a. test (f a)) l
position_of_map f test [] = refl
position_of_map f test (a ∷ l) = ap (λ n. cond (not (test (f a))) (1 + n) 0) (position_of_map f test l)

map_same : {A : Type 0} (l : List A) → map (λ a. a) l ≡ l
map_same [] = refl
map_same (a ∷ l) = ap (λ l. a ∷ l) (map_same l)

abbrev pub walk : Maps → ObjNo → List Entry
walk m x = verbs_of_left x (record { 0 = 0 }) m

abbrev pub id_of : Entry → VerbId
id_of e = e.0.1

module _ (m : Maps) (sound : IsSound m) (x : ObjNo) where
  -- what is read of the rows that the walk gives is read of the directory
  pub walked_rows : {B : Type 0} (u : VerbRow → B) → map (λ (e : Entry). u e.1) (walk m x) ≡ map u (directory_of (world_of m) x)
  walked_rows u = grind (arith, walked, map-made, made, verbs_shown)

  -- so many entries on stands the verb of that place
  pub found_place : (k : ℕ) → option_map (verb_place m x) (option_map id_of (slice_get (walk m x) k)) ≡ place_within (world_of m) x k
  found_place k = grind (arith, map_twice, walked, placed, made, verbs_shown)

  pub found_held : (k : ℕ) → IfSome (option_map id_of (slice_get (walk m x) k)) (λ id. has_verb m x id ≡ true)
  found_held k = subst (λ (l : List Entry). IfSome (option_map id_of (slice_get l k)) (λ id. has_verb m x id ≡ true)) (sym (walked m x sound)) (by (slice_get (by_number m x m.head.next_verb) k) refl)
    where
      by : (o : Option Entry) → slice_get (by_number m x m.head.next_verb) k ≡ o → IfSome (option_map id_of o) (λ id. has_verb m x id ≡ true)
      by None g = tt
      by (Some e) g =
          let at = made_at (made m x) (row_at m x) m.head.next_verb k e g in
          ap (λ (f : Entry). has_verb m x (id_of f)) at.is ∙ ap is_some at.held

  -- the first entry that passes stands at the place of the first verb that does
  pub found_word : (test : VerbRow → Bool) → find (λ (e : Entry). test e.1) (walk m x) ≡ slice_get (walk m x) (position_or_len test (directory_of (world_of m) x))
  found_word test =
      find_at (λ (e : Entry). test e.1) (walk m x)
      ∙ ap (slice_get (walk m x)) (sym (position_of_map (λ (e : Entry). e.1) test (walk m x)) ∙ ap (position_or_len test) (walked_rows (λ v. v) ∙ map_same (directory_of (world_of m) x)))
