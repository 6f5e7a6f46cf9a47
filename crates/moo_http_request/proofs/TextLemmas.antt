-- Arrays of strings.
use Rattle.moo_http_request.proofs.Words.{◌≡◌, ◌<◌, ◌+◌, ℕ, List, [], ◌∷◌, ◌++◌, Some, None, Bool, true, map, take, drop, length, get_or, option_map, refl, sym, ap, ◌∙◌, take-append-drop, drop-cons, add-one, arith, Bor, ◌≤◌, ◌&&◌, nat_le, length-map, nat_tests, list_all, Data, string, as_str, items_of, texts_of, are_within}
use Rattle.std.{proofs.lemmas.List.{map-append, map_more}, proofs.lemmas.Option.{none-some, same_Some}}
use Rattle.serde_json.specs.Data.{null, boolean, number, array, object}
use Rattle.moo_world.specs.declared.call.TheConstants.{MOST_CALLS}
use Rattle.moo_text.specs.declared.line.TheConstants.{LONGEST_LINE}

-- the texts of an array of strings are these
pub texts-strings : (texts : List (List ℕ)) → texts_of (items_of (map string texts)) ≡ Some texts
texts-strings [] = refl
texts-strings (text ∷ texts) = ap (option_map (λ rest. text ∷ rest)) (texts-strings texts)

-- an array with something else among its strings has no texts
pub texts-broken : (texts : List (List ℕ)) (d : Data) (rest : List Data) → as_str d ≡ None
    → texts_of (items_of (map string texts ++ d ∷ rest)) ≡ None
texts-broken [] d rest e = rw e refl
texts-broken (text ∷ texts) d rest e = ap (option_map (λ rest. text ∷ rest)) (texts-broken texts d rest e)

-- the same, by the place of what is no string
pub texts-broken_at : (ds : List Data) (texts : List (List ℕ)) (i : ℕ) (d : Data) → i < length ds → get_or ds i d ≡ d → as_str d ≡ None
    → take i ds ≡ map string texts → texts_of (items_of ds) ≡ None
texts-broken_at ds texts i d within at none front =
    let cut : drop i ds ≡ get_or ds i d ∷ drop (i + 1) ds = rw (add-one i) (drop-cons ds i d within) in
    let whole : ds ≡ map string texts ++ d ∷ drop (i + 1) ds =
    sym (take-append-drop i ds) ∙ ap (λ l. l ++ drop i ds) front ∙ ap (λ l. map string texts ++ l) (cut ∙ ap (λ e. e ∷ drop (i + 1) ds) at) in
    ap (λ l. texts_of (items_of l)) whole ∙ texts-broken texts d (drop (i + 1) ds) none

all-now : (p : List ℕ → Bool) (texts : List (Bor (List ℕ))) → list_all (λ text. p text.now) texts ≡ list_all p (map (λ text. text.now) texts)
all-now p [] = refl
all-now p (text ∷ texts) = ap (λ b. p text.now && b) (all-now p texts)

-- the limits, of texts behind references
pub within-now : (texts : List (Bor (List ℕ))) → length texts ≤ MOST_CALLS → list_all (λ text. nat_le (length text.now) LONGEST_LINE) texts ≡ are_within (map (λ text. text.now) texts)
within-now texts h =
    let few : nat_le (length (map (λ text. text.now) texts)) MOST_CALLS ≡ true = grind (arith, nat_tests, length-map texts (λ text. text.now)) in
    rw few (all-now (λ text. nat_le (length text) LONGEST_LINE) texts)

string_is : (d : Data) (text : List ℕ) → as_str d ≡ Some text → d ≡ string text
string_is null text e = absurd (none-some text e)
string_is (boolean b) text e = absurd (none-some text e)
string_is (number n) text e = absurd (none-some text e)
string_is (string s) text e = ap string (same_Some s text e)
string_is (array ds) text e = absurd (none-some text e)
string_is (object ms) text e = absurd (none-some text e)

-- one string more
pub texts-more : {A : Type 0} (view : A → Data) (items : List A) (i : ℕ) (item : A) (texts more : List (Bor (List ℕ))) (text : Bor (List ℕ)) → i < length items → item ≡ get_or items i item
    → as_str (view item) ≡ Some text.now → more ≡ texts ++ text ∷ [] → map view (take i items) ≡ map string (map (λ text. text.now) texts)
    → map view (take (i + 1) items) ≡ map string (map (λ text. text.now) more)
texts-more view items i item texts more text within is some pushed before =
    map_more view items i item within
    ∙ (λ j. before j ++ (ap view (sym is) ∙ string_is (view item) text.now some) j ∷ [])
    ∙ sym (ap (λ ts. map string (map (λ text. text.now) ts)) pushed
    ∙ ap (map string) (map-append (λ text. text.now) texts (text ∷ []))
    ∙ map-append string (map (λ text. text.now) texts) (text.now ∷ []))
