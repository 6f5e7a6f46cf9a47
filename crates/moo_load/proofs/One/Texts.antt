-- A printed value, and a printed list, tell their values and where they end.
use Rattle.moo_load.{proofs.Words.{◌≡◌, ℕ, List, ◌++◌, sym, ap, ◌∙◌, max, arith, AllByRecursion, Value, gather, nesting, Fits, Ends, InRange, IsText, print, spelled, list_of}, proofs.Ahead.{held_inside}}
use Rattle.moo_value.{proofs.Gather.{gather-inj}, proofs.ReadOrRefused.{value_again}, proofs.Results.{is_ok}, specs.Literal.{HoldIn}, specs.Reading.{value_at}}

-- one printed value, however deep it nests, and what follows it
pub one_print : (v w : Value) (r q : List ℕ) → HoldIn InRange IsText v → HoldIn InRange IsText w → Ends v r → Ends w q → print v ++ r ≡ print w ++ q → (v ≡ w) × (r ≡ q)
one_print v w r q holds_v holds_w ends_v ends_w e =
    let l = max (nesting v) (nesting w) in
    let first = value_again l v (print v) r (spelled v holds_v) holds_v (omega arith) ends_v in
    let second = value_again l w (print w) q (spelled w holds_w) holds_w (omega arith) ends_w in
    let same : (v, r) ≡ (w, q) = is_ok (v, r) (w, q) (sym first ∙ ap (value_at l) e ∙ second) in
    (ap (λ (x : Value × List ℕ). x.0) same, ap (λ (x : Value × List ℕ). x.1) same)

pub one_list : (vs ws : List Value) (r q : List ℕ) → AllByRecursion Fits vs → AllByRecursion Fits ws → print (list_of vs) ++ r ≡ print (list_of ws) ++ q → (vs ≡ ws) × (r ≡ q)
one_list vs ws r q a b e =
    let o = one_print (list_of vs) (list_of ws) r q (held_inside vs a) (held_inside ws b) tt tt e in
    (gather-inj vs ws (let h : gather vs ≡ gather ws = cc in h), o.1)
