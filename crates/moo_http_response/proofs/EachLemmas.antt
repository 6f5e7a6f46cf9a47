-- What calls are answered, each alone, one after another.
use Rattle.moo_http_response.proofs.Words.{◌≡◌, ◌+◌, ◌<◌, ◌≤◌, ℕ, List, [], ◌∷◌, ◌++◌, ◌∙◌, false, drop, get_or, length, map, ap, sym, refl, zero, suc, arith, view, has_float, items_have_float}
use Rattle.std.specs.{Prelude.{String, string_bytes, option_map}, declared.alloc.Global.{Global}}
use Rattle.std.{proofs.Common.{Option, Some, None, add-one, append-nil, append_assoc, drop-cons}, proofs.lemmas.List.{drop_all, drop-drop, map-append}}
use Rattle.serde_json.{specs.Data.{Data}, specs.View.{items_of}, specs.declared.value.Value.{Value as Json}}
use Rattle.moo_text.specs.declared.reply.{Reply.{Reply}, Reply.TheVariants.{Accepted, Refused, Full, Stale, NoMemory}}
use Rattle.moo_http_response.specs.{Bodies.{error_body}, EachBodies.{reply_body, alone_body, each_items, each_body}, Whys.{first_why, whys_shown}}

-- the sentence in a place
pub why-at : (whys : List (Option (String Global))) (i : ℕ) (default : Option (String Global)) → i < length whys → first_why (drop i (whys_shown whys)) ≡ option_map string_bytes (get_or whys i default)
why-at [] i default within = absurd (omega (arith, within))
why-at (why ∷ whys) zero default within = refl
why-at (why ∷ whys) (suc i) default within = why-at whys i default (omega (arith, within))

-- one more value
pub each-more : (whys : List (Option (List ℕ))) (replies : List (Option Reply)) (i : ℕ) (default : Option Reply) (vs : List Json) (v : Json) → i < length replies
    → view v ≡ alone_body (first_why (drop i whys)) (get_or replies i default) → map view vs ++ each_items (drop i whys) (drop i replies) ≡ each_items whys replies
    → map view (vs ++ v ∷ []) ++ each_items (drop (i + 1) whys) (drop (i + 1) replies) ≡ each_items whys replies
each-more whys replies i default vs v within seen before =
    let cut : drop i replies ≡ get_or replies i default ∷ drop (i + 1) replies = rw (add-one i) (drop-cons replies i default within) in
    let here : each_items (drop i whys) (drop i replies) ≡ view v ∷ each_items (drop (i + 1) whys) (drop (i + 1) replies) =
    ap (each_items (drop i whys)) cut ∙ (λ j. sym seen j ∷ each_items (drop-drop 1 i whys j) (drop (i + 1) replies)) in
    ap (λ (ds : List Data). ds ++ each_items (drop (i + 1) whys) (drop (i + 1) replies)) (map-append view vs (v ∷ []))
    ∙ append_assoc (map view vs) (view v ∷ []) (each_items (drop (i + 1) whys) (drop (i + 1) replies))
    ∙ ap (λ (ds : List Data). map view vs ++ ds) (sym here)
    ∙ before

-- no value is left
pub each-all : (whys : List (Option (List ℕ))) (replies : List (Option Reply)) (i : ℕ) (vs : List Json) → length replies ≤ i
    → map view vs ++ each_items (drop i whys) (drop i replies) ≡ each_items whys replies → map view vs ≡ each_items whys replies
each-all whys replies i vs end before =
    sym (append-nil (map view vs)) ∙ sym (ap (λ rs. map view vs ++ each_items (drop i whys) rs) (drop_all i replies end)) ∙ before

-- ---- none holds a float

no_float-told : (why : Option (List ℕ)) (word : List ℕ) → has_float (error_body why word) ≡ false
no_float-told None word = refl
no_float-told (Some why) word = refl

no_float-reply : (why : Option (List ℕ)) (reply : Reply) → has_float (reply_body why reply) ≡ false
no_float-reply why (Accepted seq []) = refl
no_float-reply why (Accepted seq (answer ∷ answers)) = refl
no_float-reply why (Refused call code) = no_float-told why _
no_float-reply why (Full call) = no_float-told why _
no_float-reply why (Stale seq) = refl
no_float-reply why NoMemory = refl

no_float-alone : (why : Option (List ℕ)) (reply : Option Reply) → has_float (alone_body why reply) ≡ false
no_float-alone why None = no_float-told why _
no_float-alone why (Some reply) = no_float-reply why reply

no_float-items : (whys : List (Option (List ℕ))) (replies : List (Option Reply)) → items_have_float (items_of (each_items whys replies)) ≡ false
no_float-items whys [] = refl
no_float-items whys (reply ∷ replies) = rw (no_float-alone (first_why whys) reply) (no_float-items (drop 1 whys) replies)

pub no_float-each : (whys : List (Option (List ℕ))) (replies : List (Option Reply)) (seq : ℕ) → has_float (each_body whys replies seq) ≡ false
no_float-each whys replies seq = rw (no_float-items whys replies) refl
