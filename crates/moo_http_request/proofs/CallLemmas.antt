-- Calls read one after another.
use Rattle.moo_http_request.proofs.Words.{◌≡◌, ℕ, ◌+◌, ◌<◌, List, [], ◌∷◌, ◌++◌, Some, None, map, length, drop, get_or, refl, sym, ap, ◌∙◌, drop-cons, add-one, Bor, ◌≤◌, drop_all, call_of, Calls, Whole, Bad, with_call, calls_from}
use Rattle.moo_world.specs.declared.call.Call.{Call}

-- calls before what else was read
abbrev pub before_calls : List Call → Calls → Calls
before_calls [] read = read
before_calls (call ∷ calls) read = with_call call (before_calls calls read)

before_calls-push : (calls : List Call) (call : Call) (read : Calls) → before_calls (calls ++ call ∷ []) read ≡ before_calls calls (with_call call read)
before_calls-push [] call read = refl
before_calls-push (c ∷ calls) call read = ap (with_call c) (before_calls-push calls call read)

before_calls-bad : (calls : List Call) (n : ℕ) → before_calls calls (Bad n) ≡ Bad n
before_calls-bad [] n = refl
before_calls-bad (c ∷ calls) n = ap (with_call c) (before_calls-bad calls n)

before_calls-none : (calls : List Call) → before_calls calls (Whole []) ≡ Whole calls
before_calls-none [] = refl
before_calls-none (c ∷ calls) = ap (with_call c) (before_calls-none calls)

-- the texts, and those from i on
abbrev pub texts_from : List (Bor (List ℕ)) → ℕ → List (List ℕ)
texts_from texts i = map (λ text. text.now) (drop i texts)

texts_from-one : (texts : List (Bor (List ℕ))) (i : ℕ) (d : Bor (List ℕ)) → i < length texts → texts_from texts i ≡ (get_or texts i d).now ∷ texts_from texts (i + 1)
texts_from-one texts i d within =
    let cut : drop i texts ≡ get_or texts i d ∷ drop (i + 1) texts = rw (add-one i) (drop-cons texts i d within) in
    ap (map (λ text. text.now)) cut

-- one more call
pub calls-more : (calls : List Call) (call : Call) (texts : List (Bor (List ℕ))) (i : ℕ) (d : Bor (List ℕ)) → i < length texts → Some call ≡ call_of (get_or texts i d).now
    → before_calls calls (calls_from (i + 1) (texts_from texts i)) ≡ before_calls (calls ++ call ∷ []) (calls_from (i + 1 + 1) (texts_from texts (i + 1)))
calls-more calls call texts i d within e =
    rw (texts_from-one texts i d within) (rw (sym e) (sym (before_calls-push calls call (calls_from (i + 1 + 1) (texts_from texts (i + 1))))))

-- a text that is no call
pub calls-bad : (calls : List Call) (texts : List (Bor (List ℕ))) (i : ℕ) (d : Bor (List ℕ)) → i < length texts → None ≡ call_of (get_or texts i d).now
    → before_calls calls (calls_from (i + 1) (texts_from texts i)) ≡ Bad (i + 1)
calls-bad calls texts i d within e = rw (texts_from-one texts i d within) (rw (sym e) (before_calls-bad calls (i + 1)))

-- all texts are calls
pub calls-all : (calls : List Call) (texts : List (Bor (List ℕ))) (i : ℕ) → length texts ≤ i → before_calls calls (calls_from (i + 1) (texts_from texts i)) ≡ Whole calls
calls-all calls texts i end =
    ap (λ (l : List (Bor (List ℕ))). before_calls calls (calls_from (i + 1) (map (λ text. text.now) l))) (drop_all i texts end) ∙ before_calls-none calls
