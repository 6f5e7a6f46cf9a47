-- What is received of bytes is determined by them.
use Rattle.moo_http_request.{proofs.Words.{◌≡◌, inl, inr, ℕ, List, Some, None, arith, sym, ap, subst, ◌∙◌, option_and_then, RequestHead, ReadsRequest, request_unique, Asked, Form, Plan, Decided, Body, Request, BodyAsks, form_asked, plan_by, is_head, asks_why, PlanAsks, Receives, nothing, no_head, request, shape_of}, proofs.HeadLemmas.{no_empty_head}, specs.declared.request.Received.{Received}}
use Rattle.std.specs.Option.{option_map_or}
use Rattle.moo_http_request.specs.declared.asked.Asked.TheVariants.{Refused}
use Rattle.moo_http_request.specs.declared.asked.Refusal.TheVariants.{BadRequest}

body-once : (form : Form) (bytes : List ℕ) (a b : Asked) → BodyAsks form bytes a → BodyAsks form bytes b → a ≡ b
body-once form bytes a b (None, j, e) (None, k, f) = e ∙ sym f
body-once form bytes a b (None, j, e) (Some d, k, f) = let none = j k.0 in let some = k.1 in cc
body-once form bytes a b (Some d, j, e) (None, k, f) = let none = k j.0 in let some = j.1 in cc
body-once form bytes a b (Some d, j, e) (Some x, k, f) =
    e ∙ ap (λ json. option_map_or (form_asked form) (option_and_then shape_of json) (Refused BadRequest)) (sym j.1 ∙ k.1) ∙ sym f

plan-once : (plan : Plan) (rest : List ℕ) (a b : Asked) → PlanAsks plan rest a → PlanAsks plan rest b → a ≡ b
plan-once (Decided d) rest a b p q = p ∙ sym q
plan-once (Body form n) rest a b (inl (fits, x)) (inl (fit, y)) = body-once form _ a b x y
plan-once (Body form n) rest a b (inl (fits, x)) (inr (short, e)) = absurd (omega (arith, fits, short))
plan-once (Body form n) rest a b (inr (short, e)) (inl (fits, x)) = absurd (omega (arith, fits, short))
plan-once (Body form n) rest a b (inr (short, e)) (inr (brief, f)) = e ∙ sym f

requests-once : (input : List ℕ) (x y : RequestHead) (t u : List ℕ) (a b : Asked) → ReadsRequest input x t → ReadsRequest input y u
    → PlanAsks (plan_by x) t a → PlanAsks (plan_by y) u b → Request (is_head x) (asks_why x) a ≡ Request (is_head y) (asks_why y) b
requests-once input x y t u a b p q asks others =
    let same = request_unique input x y t u p q in
    let here : PlanAsks (plan_by y) u a = subst (λ rest. PlanAsks (plan_by y) rest a) same.1 (subst (λ head. PlanAsks (plan_by head) t a) same.0 asks) in
    ap (λ head. Request (is_head head) (asks_why head) a) same.0 ∙ ap (Request (is_head y) (asks_why y)) (plan-once (plan_by y) u a b here others)

pub received-once : (input : List ℕ) (r q : Received) → Receives input r → Receives input q → r ≡ q
received-once input r q (nothing e f) (nothing x y) = f ∙ sym y
received-once input r q (nothing e f) (no_head x none y) = absurd (x e)
received-once input r q (nothing e f) (request head rest asked b p y) =
    absurd (no_empty_head head rest (subst (λ i. ReadsRequest i head rest) e b.reads))
received-once input r q (no_head x none y) (nothing e f) = absurd (x e)
received-once input r q (no_head x none y) (no_head e missing f) = y ∙ sym f
received-once input r q (no_head x none y) (request head rest asked b p f) = absurd (none head rest b)
received-once input r q (request head rest asked b p y) (nothing e f) =
    absurd (no_empty_head head rest (subst (λ i. ReadsRequest i head rest) e b.reads))
received-once input r q (request head rest asked b p y) (no_head x none f) = absurd (none head rest b)
received-once input r q (request head rest asked b p y) (request other more asks d o f) =
    y ∙ requests-once input head other rest more asked asks b.reads d.reads p o ∙ sym f
