-- When a request is whole.
use Rattle.moo_http_request.{proofs.Words.{◌≡◌, inl, inr, ◌+◌, ◌<◌, ◌≤◌, ℕ, List, ◌++◌, length, drop, arith, sym, ap, subst, ◌∙◌, append_assoc, length-append, length-drop, take-append-le, ReadsRequest, request_unique, Asked, HeadSpans, Plan, Decided, Body, Request, HeadStands, Lacks, BodyAsks, plan_by, body_size, is_head, asks_why, PlanAsks, Receives, request, no_head, nothing}, specs.declared.asked.Asked.TheVariants.{Refused}, specs.declared.asked.Refusal.TheVariants.{BadRequest}, specs.declared.request.Received.{Received}, specs.Whole.{IsWhole, IsCutOff, IsWholeFrom}, proofs.HeadLemmas.{no_empty_head}}

-- what a plan asks of what follows the head, once that is long enough
plan_more : (plan : Plan) (rest more : List ℕ) (asked : Asked) → body_size plan ≤ length rest → PlanAsks plan rest asked → PlanAsks plan (rest ++ more) asked
plan_more (Decided decided) rest more asked fits asks = asks
plan_more (Body form n) rest more asked fits (inl (long, asks)) =
    let len = length-append rest more in
    inl (omega (arith, len, fits), subst (λ b. BodyAsks form b asked) (sym (take-append-le n rest more fits)) asks)
plan_more (Body form n) rest more asked fits (inr (short, is)) = absurd (omega (arith, fits, short))

-- what a plan asks of what is too short
plan_short : (plan : Plan) (rest : List ℕ) (asked : Asked) → length rest < body_size plan → PlanAsks plan rest asked → asked ≡ Refused BadRequest
plan_short (Decided decided) rest asked short asks = absurd (omega (arith, short))
plan_short (Body form n) rest asked short (inl (long, asks)) = absurd (omega (arith, long, short))
plan_short (Body form n) rest asked short (inr (less, is)) = is

-- what follows the head of an input, if it begins with one that was found
module _ (bytes : List ℕ) (found : HeadSpans) (plan : Plan) (s : HeadStands bytes found) (p : plan ≡ plan_by s.head) where
  abbrev left : List ℕ → List ℕ
  left rest = drop found.spans.len bytes ++ rest

  -- this is asked of them
  asked_of : (rest : List ℕ) (received : Received) → Receives (bytes ++ rest) received → (asked : Asked) × PlanAsks plan (left rest) asked × (received ≡ Request (is_head s.head) (asks_why s.head) asked)
  asked_of rest received (nothing e f) = absurd (no_empty_head s.head (left rest) (subst (λ i. ReadsRequest i s.head (left rest)) e (s.begins rest).reads))
  asked_of rest received (no_head x none f) = absurd (none s.head (left rest) (s.begins rest))
  asked_of rest received (request head behind asked b asks f) =
      let one = request_unique (bytes ++ rest) head s.head behind (left rest) b.reads (s.begins rest).reads in
      let here = subst (λ l. PlanAsks (plan_by head) l asked) one.1 asks in
      (asked, subst (λ q. PlanAsks q (left rest) asked) (ap plan_by one.0 ∙ sym p) here, f ∙ ap (λ h. Request (is_head h) (asks_why h) asked) one.0)

  sized : (rest : List ℕ) → length (bytes ++ rest) ≡ found.spans.len + length (left rest)
  sized rest =
      let tail = length-append (drop found.spans.len bytes) rest in
      omega (arith, length-append bytes rest, tail, length-drop found.spans.len bytes, s.within.section.len_fits)

  whole_at : (rest : List ℕ) → found.spans.len + body_size plan ≤ length (bytes ++ rest) → IsWhole (bytes ++ rest)
  whole_at rest fits more received it =
      let q = asked_of rest received it in
      let there = subst (λ l. PlanAsks plan l q.0) (append_assoc (drop found.spans.len bytes) rest more) (plan_more plan (left rest) more q.0 (omega (arith, sized rest, fits)) q.1) in
      subst (λ input. Receives input received) (sym (append_assoc bytes rest more))
      (request s.head (left (rest ++ more)) q.0 (s.begins (rest ++ more)) (subst (λ plan. PlanAsks plan (left (rest ++ more)) q.0) p there) q.2)

  cut_before : (rest : List ℕ) → length (bytes ++ rest) < found.spans.len + body_size plan → IsCutOff (bytes ++ rest)
  cut_before rest short received it =
      let q = asked_of rest received it in
      (is_head s.head, asks_why s.head, q.2 ∙ ap (Request (is_head s.head) (asks_why s.head)) (plan_short plan (left rest) q.0 (omega (arith, sized rest, short)) q.1))

  pub ends_after_body : IsWholeFrom bytes (found.spans.len + body_size plan)
  ends_after_body = record { whole = whole_at; cut = cut_before }

-- bytes that begin with no head, whatever follows
lacking : (input more : List ℕ) → Lacks input → Lacks (input ++ more) → (received : Received) → Receives input received → Receives (input ++ more) received
lacking input more lacks still received (nothing e f) = absurd (lacks.0 e)
lacking input more lacks still received (no_head x none f) = no_head still.0 still.1 f
lacking input more lacks still received (request head behind asked b asks f) = absurd (lacks.1 head behind b)

pub ends_here : (bytes : List ℕ) (n : ℕ) → n ≡ length bytes → ((more : List ℕ) → Lacks (bytes ++ more)) → IsWholeFrom bytes n
ends_here bytes n is lacks = record {
  whole = λ rest fits more received asks. lacking (bytes ++ rest) more (lacks rest) (subst Lacks (sym (append_assoc bytes rest more)) (lacks (rest ++ more))) received asks;
  cut = λ rest short. absurd (omega (arith, length-append bytes rest, short, is));
}
