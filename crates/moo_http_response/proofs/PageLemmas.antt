-- The objects past a number, listed one after another, as pages of the list of all objects.
use Rattle.moo_http_response.proofs.Words.{◌≡◌, ◌≤◌, ◌<◌, ◌+◌, ℕ, List, [], ◌∷◌, ◌++◌, map, take, drop, length, refl, sym, ap, ◌∙◌, arith}
use Rattle.std.{proofs.Common.{append-nil, append_assoc, length-append, inl, inr, Option, Some, None, true≢false}, specs.Prelude.{◌⊎◌, IsSome}, specs.FinMap.{get}, specs.List.{filter_map}, proofs.lemmas.List.{take-append-le, drop-append-le, take_all, drop_all}, proofs.lemmas.List.Elements.{filter_map-append}}
use Rattle.moo_value.specs.declared.value.ObjNo.{ObjNo}
use Rattle.moo_rows.{specs.declared.row.ObjRow.{ObjRow}, specs.Maps.{Maps, object_cmp}, specs.Ordered.{IsNext}, specs.Walk.{is_past, objects_left}, proofs.Walking.{objects-end, objects-step}}
use Rattle.moo_world.{specs.Rows.{world_of}, specs.World.{IsTree}, proofs.Shown.ObjectEntries.{objects_passing}}
use Rattle.moo_http_response.{specs.declared.entry.Entry.{Entry}, specs.declared.page.Page.{Page}, specs.Pages.{entry_of, before_page, objects_past, first_of, page_of}}

-- the numbers of the objects past this one
abbrev pub numbers_left : Maps → ObjNo → List ObjNo
numbers_left t last = map (λ e. e.0) (objects_left (Some last) t)

-- so many objects past the first number are listed, and those past the last one are left
pub record Listed (t : Maps) (first last : ObjNo) (count : ℕ) (list : List Entry) : Type 0 where
  pub keys : List ObjNo
  pub all : numbers_left t first ≡ keys ++ numbers_left t last
  pub items : list ≡ filter_map (entry_of (world_of t)) keys
  pub counted : length keys ≡ count
  pub few : count ≤ 1000

pub none_listed : (t : Maps) (first last : ObjNo) (list : List Entry) → last ≡ first → list ≡ [] → Listed t first last 0 list
none_listed t first last list same empty = record {
  keys = [];
  all = ap (numbers_left t) (sym same);
  items = empty;
  counted = refl;
  few = omega arith;
}

row_there : (o : Option ObjRow) → IsSome o → (row : ObjRow) × (o ≡ Some row)
row_there None some = absurd (true≢false (sym some))
row_there (Some row) some = (row, refl)

-- the next object, and then those past it
left_first : (t : Maps) (last x : ObjNo) → IsNext t.objects (Some last) (Some x) → numbers_left t last ≡ x ∷ numbers_left t x
left_first t last x next =
    let row = row_there (get t.objects x) next.0 in
    ap (map (λ e. e.0)) (objects-step t (Some last) x row.0 next row.1)

left_none : (t : Maps) (last : ObjNo) → IsNext t.objects (Some last) None → numbers_left t last ≡ []
left_none t last next = ap (map (λ e. e.0)) (objects-end t (Some last) next)

pub one_listed : (t : Maps) (first last x : ObjNo) (count : ℕ) (list more : List Entry) → Listed t first last count list → count < 1000 → IsNext t.objects (Some last) (Some x)
    → more ≡ list ++ filter_map (entry_of (world_of t)) (x ∷ []) → Listed t first x (count + 1) more
one_listed t first last x count list more so_far room next added =
    let keys = so_far.keys in
    record {
      keys = keys ++ x ∷ [];
      all = so_far.all ∙ ap (λ l. keys ++ l) (left_first t last x next) ∙ sym (append_assoc keys (x ∷ []) (numbers_left t x));
      items = added ∙ ap (λ l. l ++ filter_map (entry_of (world_of t)) (x ∷ [])) so_far.items ∙ sym (filter_map-append (entry_of (world_of t)) keys (x ∷ []));
      counted = length-append keys (x ∷ []) ∙ ap (λ n. n + 1) so_far.counted;
      few = omega (arith, room);
    }

-- the whole list splits behind those that are listed, if there is no room for more or nothing is left
split : (keys rest : List ObjNo) → length keys ≤ 1000 → ((1000 ≤ length keys) ⊎ (rest ≡ [])) → (take 1000 (keys ++ rest) ≡ keys) × (drop 1000 (keys ++ rest) ≡ rest)
split keys rest few (inl many) =
    (take-append-le 1000 keys rest many ∙ take_all 1000 keys few, drop-append-le 1000 keys rest many ∙ ap (λ l. l ++ rest) (drop_all 1000 keys few))
split keys rest few (inr none) =
    let all : keys ++ rest ≡ keys = ap (λ l. keys ++ l) none ∙ append-nil keys in
    (ap (take 1000) all ∙ take_all 1000 keys few, ap (drop 1000) all ∙ drop_all 1000 keys few ∙ sym none)

first_left : (t : Maps) (last : ObjNo) (next : Option ObjNo) → IsNext t.objects (Some last) next → next ≡ first_of (numbers_left t last)
first_left t last None h = ap first_of (sym (left_none t last h))
first_left t last (Some x) h = ap first_of (sym (left_first t last x h))

pub paged : (t : Maps) → IsTree (world_of t) → (from last : ObjNo) (count : ℕ) (objects list : List Entry) (next : Option ObjNo) → objects ≡ list → Listed t (before_page from) last count list
    → (1000 ≤ count) ⊎ IsNext t.objects (Some last) None → IsNext t.objects (Some last) next → ◌≡◌ {A = Page} (record { objects = objects; next = next }) (page_of (world_of t) from)
paged t tree from last count objects list next same so_far ends first =
    let keys = so_far.keys in
    let rest = numbers_left t last in
    let whole : objects_past (world_of t) (before_page from) ≡ keys ++ rest = objects_passing t tree (λ x. is_past object_cmp (Some (before_page from)) x) ∙ so_far.all in
    let few : length keys ≤ 1000 = omega (arith, so_far.counted, so_far.few) in
    let stops : (1000 ≤ length keys) ⊎ (rest ≡ []) = elim ends [
      | inl many ↦ inl (omega (arith, so_far.counted, many))
      | inr none ↦ inr (left_none t last none)
    ] in
    let parts = split keys rest few stops in
    let front : objects ≡ filter_map (entry_of (world_of t)) (take 1000 (objects_past (world_of t) (before_page from))) = same ∙ so_far.items ∙ ap (filter_map (entry_of (world_of t))) (sym (ap (take 1000) whole ∙ parts.0)) in
    let back : next ≡ first_of (drop 1000 (objects_past (world_of t) (before_page from))) = first_left t last next first ∙ ap first_of (sym (ap (drop 1000) whole ∙ parts.1)) in
    λ i. record { objects = front i; next = back i }
