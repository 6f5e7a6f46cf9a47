-- What reading takes from a reader, joined from call to call.
use Rattle.moo_http_request.proofs.Words.{◌≡◌, ◌≤◌, ◌+◌, ◌-◌, ℕ, List, [], ◌++◌, true, false, Option, length, take, refl, sym, ap, subst, ◌∙◌, append-nil, append_assoc, arith, Consumes, IsAtEnd, max, Result, Ok, Err, OnErr, length-append, Grows, TakesAtMost, Settles}
use Rattle.std.proofs.{KnownBytes.{Consumes-trans}, lemmas.List.{length-take-le}}

-- so much of a front as it holds
pub front_size : (n : ℕ) (xs ys : List ℕ) → n ≤ length xs → n ≡ length (take n (xs ++ ys))
front_size n xs ys within =
    let long = length-append xs ys in
    sym (length-take-le n (xs ++ ys) (omega (arith, long, within)))

-- what was taken stands in the bytes, where there were none before
pub Grows-all : (a b : Option (List ℕ)) (x y : List ℕ) → x ≡ [] → Grows a b x y → Consumes a b y
Grows-all a b x y e p = subst (Consumes a b) (sym (p.grown ∙ ap (λ (t : List ℕ). t ++ p.given) e)) p.known

pub Grows-more : (a b c : Option (List ℕ)) (y z : List ℕ) → Consumes a b y → Grows b c y z → Consumes a c z
Grows-more a b c y z p q = subst (Consumes a c) (sym q.grown) (Consumes-trans a b c y q.given p q.known)

pub Grows-then : (a b c : Option (List ℕ)) (x y z : List ℕ) → Grows a b x y → Grows b c y z → Grows a c x z
Grows-then a b c x y z p q = record {
  given = p.given ++ q.given;
  known = Consumes-trans a b c p.given q.given p.known q.known;
  grown = q.grown ∙ ap (λ (t : List ℕ). t ++ q.given) p.grown ∙ append_assoc x p.given q.given;
}

-- what was taken, with what stood there before, stays below the limit
pub taken_then : (a b c : Option (List ℕ)) (x y : List ℕ) (limit : ℕ) → length y ≤ limit → Grows a b x y → TakesAtMost (limit - length y) b c → TakesAtMost (limit - length x) a c
taken_then a b c x y limit inside p q =
    let whole = length-append p.given q.given in
    let grown : length y ≡ length x + length p.given = ap length p.grown ∙ length-append x p.given in
    record {
      given = p.given ++ q.given;
      known = Consumes-trans a b c p.given q.given p.known q.known;
      few = omega (arith, whole, grown, inside, q.few);
    }

pub taken : (a b : Option (List ℕ)) (x y : List ℕ) (limit : ℕ) → length y ≤ max (length x) limit → Grows a b x y → TakesAtMost (limit - length x) a b
taken a b x y limit inside p =
    let grown : length y ≡ length x + length p.given = ap length p.grown ∙ length-append x p.given in
    record { given = p.given; known = p.known; few = omega (arith, grown, inside) }

-- what holds whatever follows
pub settled : (left : Option (List ℕ)) (given : List ℕ) (P : List ℕ → Type 0) → ((more : List ℕ) → P (given ++ more)) → Settles left given P
settled left given P h = record { ended = false; at_end = λ e. cc; holds = λ rest none. h rest }

-- what holds at the end
pub settled_at_end : (left : Option (List ℕ)) (given : List ℕ) (P : List ℕ → Type 0) → IsAtEnd left → P given → Settles left given P
settled_at_end left given P end h = record {
  ended = true;
  at_end = λ e. end;
  holds = λ rest none. subst P (sym (ap (λ (t : List ℕ). given ++ t) (none refl) ∙ append-nil given)) h;
}

pub on_err : {A E : Type 0} (r : Result A E) (P : Type 0) → P → OnErr r P
on_err (Ok x) P p = tt
on_err (Err e) P p = p
