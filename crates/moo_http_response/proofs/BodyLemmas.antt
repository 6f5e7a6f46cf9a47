-- The bodies of answers: they hold no float, and their texts come one after another.
use Rattle.moo_http_response.proofs.Words.{◌≡◌, ◌+◌, ◌<◌, ℕ, List, [], ◌∷◌, ◌++◌, ◌∙◌, false, map, get_or, length, take, sym, ap, refl, rules, Value, print, has_float, items_have_float, string, view, strings, object_text, accepted_body, look_body}
use Rattle.std.{proofs.lemmas.List.{map-append, map_more}, specs.Prelude.{String, string_bytes}, specs.declared.alloc.Global.{Global}}
use Rattle.serde_json.{specs.declared.value.Value.{Value as Json, the_lemmas}, specs.declared.value.Value.TheVariants.{String as a_string}}
use Rattle.std.specs.Prelude.{Option, Some, None}
use Rattle.serde_json.specs.{View.{items_of}, Data.{Data}}
use Rattle.moo_value.specs.declared.value.ObjNo.{ObjNo}
use Rattle.moo_dump.specs.declared.seen.Look.{Look}
use Rattle.moo_http_response.specs.{PageBodies.{entry_body, next_data, page_body}, declared.entry.Entry.{Entry}, declared.page.Page.{Page}}

no_float-strings : (texts : List (List ℕ)) → items_have_float (strings texts) ≡ false
no_float-strings [] = refl
no_float-strings (text ∷ texts) = no_float-strings texts

pub no_float-accepted : (answers : List Value) (seq : ℕ) → has_float (accepted_body answers seq) ≡ false
no_float-accepted answers seq = rw (no_float-strings (map print answers)) refl

pub no_float-look : (look : Look) → has_float (look_body look) ≡ false
no_float-look look = rw (no_float-strings (map object_text look.children)) (rw (no_float-strings (map object_text look.contents)) refl)

no_float-entries : (entries : List Entry) → items_have_float (items_of (map entry_body entries)) ≡ false
no_float-entries [] = refl
no_float-entries (entry ∷ entries) = no_float-entries entries

no_float-next : (next : Option ObjNo) → has_float (next_data next) ≡ false
no_float-next None = refl
no_float-next (Some x) = refl

pub no_float-page : (page : Page) (seq : ℕ) → has_float (page_body page seq) ≡ false
no_float-page page seq = rw (no_float-next page.next) (rw (no_float-entries page.objects) refl)

pub view-String : (s : String Global) → view (a_string s) ≡ string (string_bytes s)
view-String s = search (rules, the_lemmas)

-- one more text in an array
pub one_more : {A : Type 0} (f : A → List ℕ) (xs : List A) (i : ℕ) (default : A) (vs : List Json) (v : Json) → i < length xs → view v ≡ string (f (get_or xs i default)) → map view vs ≡ map string (map f (take i xs)) → map view (vs ++ v ∷ []) ≡ map string (map f (take (i + 1) xs))
one_more f xs i default vs v within seen before =
    map-append view vs (v ∷ [])
    ∙ (λ j. before j ++ seen j ∷ [])
    ∙ sym (ap (map string) (map_more f xs i default within) ∙ map-append string (map f (take i xs)) (f (get_or xs i default) ∷ []))

-- one more value in an array
pub one_value_more : {A : Type 0} (f : A → Data) (xs : List A) (i : ℕ) (default : A) (vs : List Json) (v : Json) → i < length xs → view v ≡ f (get_or xs i default) → map view vs ≡ map f (take i xs) → map view (vs ++ v ∷ []) ≡ map f (take (i + 1) xs)
one_value_more f xs i default vs v within seen before =
    map-append view vs (v ∷ [])
    ∙ (λ j. before j ++ seen j ∷ [])
    ∙ sym (map_more f xs i default within)
