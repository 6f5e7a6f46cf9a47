-- What a request asks, from the bytes that were read of it.
use Rattle.moo_http_request.{proofs.Words.{◌≡◌, ◌⊎◌, inl, inr, ◌+◌, ◌-◌, ◌<◌, ◌≤◌, ℕ, List, ◌++◌, Option, length, take, drop, arith, refl, sym, ap, subst, ◌∙◌, append_assoc, length-append, length-drop, [], append-nil, false, slice_range, max, Bool, take-append-le, drop-append-le, Consumes, IsAtEnd, RequestHead, ReadsRequest, Asked, Form, HeadSpans, Plan, Body, Request, HeadStands, Lacks, Grows, TakesAtMost, BodyAsks, plan_by, body_size, is_head, asks_why, PlanAsks, Receives, request, no_head, nothing, IsSparing, small, body, Takes, StopsReading, Settles, request_unique}, specs.declared.asked.Asked.TheVariants.{Refused}, specs.declared.asked.Refusal.TheVariants.{BadRequest}, specs.declared.request.Received.TheVariants.{Nothing}, specs.Head.{BeginsWithHead, HasNoHead}, proofs.Giving.{settled, settled_at_end, Grows-more}, proofs.HeadLemmas.{no_empty_head}}
use Rattle.std.proofs.KnownBytes.{Consumes-trans}
use Rattle.moo_http_request.specs.declared.head.TheConstants.{MAX_HEAD}

-- a body that was read whole
pub body_whole : (left : Option (List ℕ)) (bytes : List ℕ) (start n : ℕ) (form : Form) (asked : Asked) → start + n ≤ length bytes
    → BodyAsks form (slice_range bytes start (start + n)) asked → Settles left bytes (λ input. PlanAsks (Body form n) (drop start input) asked)
body_whole left bytes start n form asked fits asks =
    settled left bytes (λ input. PlanAsks (Body form n) (drop start input) asked) (λ more.
    let len = length-drop start (bytes ++ more) in
    let long = length-append bytes more in
    let here : n ≤ length (drop start bytes) = omega (arith, length-drop start bytes, fits) in
    let size : (start + n) - start ≡ n = omega arith in
    let is : take n (drop start (bytes ++ more)) ≡ slice_range bytes start (start + n) =
    ap (take n) (drop-append-le start bytes more (omega (arith, fits))) ∙ take-append-le n (drop start bytes) more here ∙ ap (λ k. take k (drop start bytes)) (sym size) in
    inl (omega (arith, len, long, fits), subst (λ b. BodyAsks form b asked) (sym is) asks))

-- the bytes of a body that is cut off
pub body_short : (a left : Option (List ℕ)) (before bytes : List ℕ) (start n : ℕ) (form : Form) → start ≤ length before → Grows a left before bytes → length bytes < start + n → IsAtEnd left
    → Settles left bytes (λ input. PlanAsks (Body form n) (drop start input) (Refused BadRequest))
body_short a left before bytes start n form inside grows short end =
    let long : length bytes ≡ length before + length grows.given = ap length grows.grown ∙ length-append before grows.given in
    let len = length-drop start bytes in
    settled_at_end left bytes (λ input. PlanAsks (Body form n) (drop start input) (Refused BadRequest)) end (inr (omega (arith, inside, long, len, short), refl))

-- ---- the whole

-- what stands at the front of bytes is asked of them, whatever follows
receives_of : (bytes more : List ℕ) (found : HeadSpans) (plan : Plan) (h w : Bool) (asked : Asked) (s : HeadStands bytes found) → plan ≡ plan_by s.head → h ≡ is_head s.head → w ≡ asks_why s.head
    → PlanAsks plan (drop found.spans.len (bytes ++ more)) asked → Receives (bytes ++ more) (Request h w asked)
receives_of bytes more found plan h w asked s p e f asks =
    let text : drop found.spans.len (bytes ++ more) ≡ drop found.spans.len bytes ++ more = drop-append-le found.spans.len bytes more s.within.section.len_fits in
    request s.head (drop found.spans.len bytes ++ more) asked (s.begins more)
    (subst (λ q. PlanAsks q (drop found.spans.len bytes ++ more) asked) p (subst (λ rest. PlanAsks plan rest asked) text asks))
    (ap (λ b. Request b w asked) e ∙ ap (λ b. Request (is_head s.head) b asked) f)

-- no more was taken than the plan needs
sparing_of : (bytes more : List ℕ) (found : HeadSpans) (plan : Plan) (s : HeadStands bytes found) → plan ≡ plan_by s.head → length bytes ≤ MAX_HEAD
    → length (bytes ++ more) ≤ max (length bytes) (found.spans.len + body_size plan) → IsSparing (bytes ++ more)
sparing_of bytes more found plan s p few most =
    let cases : (length (bytes ++ more) ≤ length bytes) ⊎ (length (bytes ++ more) ≤ found.spans.len + body_size plan) = grind (arith, most) in
    elim cases [
      | inl h ↦ small (omega (arith, h, few))
      | inr h ↦ body s.head (drop found.spans.len bytes ++ more) (s.begins more) (omega (arith, h, ap body_size p, s.at.len))
    ]

-- behind the head stands the rest of its last piece, and what the plan needs
behind_of : (bytes all given : List ℕ) (found : HeadSpans) (plan : Plan) (s : HeadStands bytes found) → plan ≡ plan_by s.head → length bytes < found.spans.len + 1024
    → all ≡ bytes ++ given → length all ≤ max (length bytes) (found.spans.len + body_size plan)
    → (head : RequestHead) (rest : List ℕ) → BeginsWithHead all head rest → length rest ≤ max 1023 (body_size (plan_by head))
behind_of bytes all given found plan s p close e most head rest h =
    let one = request_unique all head s.head rest (drop found.spans.len bytes ++ given) h.reads (subst (λ input. ReadsRequest input s.head (drop found.spans.len bytes ++ given)) (sym e) (s.begins given).reads) in
    let size : body_size (plan_by head) ≡ body_size plan = ap (λ k. body_size (plan_by k)) one.0 ∙ sym (ap body_size p) in
    let whole : length all ≡ length bytes + length given = ap length e ∙ length-append bytes given in
    let tail : length rest ≡ length (drop found.spans.len bytes) + length given = ap length one.1 ∙ length-append (drop found.spans.len bytes) given in
    let cut = length-drop found.spans.len bytes in
    let inside = s.within.section.len_fits in
    omega (arith, size, whole, tail, cut, inside, close, most)

pub takes_of : (a b c : Option (List ℕ)) (bytes all : List ℕ) (found : HeadSpans) (plan : Plan) (h w : Bool) (asked : Asked) (s : HeadStands bytes found) → plan ≡ plan_by s.head → h ≡ is_head s.head → w ≡ asks_why s.head
    → length bytes ≤ MAX_HEAD → length bytes < found.spans.len + 1024 → Consumes a b bytes → Grows b c bytes all → length all ≤ max (length bytes) (found.spans.len + body_size plan)
    → Settles c all (λ input. PlanAsks plan (drop found.spans.len input) asked) → Takes a c (Request h w asked)
takes_of a b c bytes all found plan h w asked s p e f few close taken grows most asks = record {
  behind = behind_of bytes all grows.given found plan s p close grows.grown most;
  given = all;
  gives = record {
    known = Grows-more a b c bytes all taken grows;
    sparing = subst IsSparing (sym grows.grown) (sparing_of bytes grows.given found plan s p few (subst (λ l. length l ≤ max (length bytes) (found.spans.len + body_size plan)) grows.grown most));
  };
  settles = record {
    ended = asks.ended;
    at_end = asks.at_end;
    holds = λ rest none.
        let whole : all ++ rest ≡ bytes ++ (grows.given ++ rest) = ap (λ l. l ++ rest) grows.grown ∙ append_assoc bytes grows.given rest in
        subst (λ input. Receives input (Request h w asked)) (sym whole)
        (receives_of bytes (grows.given ++ rest) found plan h w asked s p e f
        (subst (λ input. PlanAsks plan (drop found.spans.len input) asked) whole (asks.holds rest none)));
  };
}

-- reading stopped behind the head
pub breaks_of : (a b c : Option (List ℕ)) (bytes : List ℕ) (found : HeadSpans) (plan : Plan) (s : HeadStands bytes found) → plan ≡ plan_by s.head
    → length bytes ≤ MAX_HEAD → Consumes a b bytes → TakesAtMost ((found.spans.len + body_size plan) - length bytes) b c → StopsReading a c
breaks_of a b c bytes found plan s p few taken more =
    let whole = length-append bytes more.given in
    record {
      given = bytes ++ more.given;
      gives = record {
        known = Consumes-trans a b c bytes more.given taken more.known;
        sparing = sparing_of bytes more.given found plan s p few (omega (arith, whole, more.few));
      };
    }

-- there is no head
pub takes_refused : (a b : Option (List ℕ)) (given : List ℕ) → Consumes a b given → length given ≤ MAX_HEAD → Settles b given Lacks → Takes a b (Request false false (Refused BadRequest))
takes_refused a b given taken few lacks = record {
  given = given;
  gives = record { known = taken; sparing = small few };
  settles = record { ended = lacks.ended; at_end = lacks.at_end; holds = λ rest none. (let l = lacks.holds rest none in no_head l.0 l.1 refl) };
  behind = λ head rest h. absurd ((subst HasNoHead (append-nil given) (lacks.holds [] (λ e. refl)).1) head rest h);
}

-- there are no bytes
pub takes_nothing : (a b : Option (List ℕ)) (given : List ℕ) → Consumes a b given → given ≡ [] → IsAtEnd b → Takes a b Nothing
takes_nothing a b given taken none end = record {
  given = given;
  gives = record { known = taken; sparing = small (omega (arith, ap length none)) };
  settles = settled_at_end b given (λ input. Receives input Nothing) end (nothing none refl);
  behind = λ head rest h. absurd (no_empty_head head rest (subst (λ input. ReadsRequest input head rest) none h.reads));
}
