use Rattle.moo_load.{proofs.Words.{◌≡◌, ◌+◌, ℤ, pos, negsuc, ◌≤ℤ◌, ℕ, List, ◌∷◌, ◌++◌, length, drop, refl, sym, ap, subst, ◌∙◌, arith, from_err, heading, State, w32, to_z, of_z, to_z-of_z}, proofs.Headed.{top_of, seq_line, top_line, seq_plain, top_plain, lines_are, after_line}, proofs.Within.{none_read}}
use Rattle.moo_load.proofs.heading.read_heading.Goals as goal

-- the second line is where the first one ends
second_at : (text first : List ℕ) (s : State) (rest : List ℕ) (at : ℕ) → text ≡ heading s ++ rest → first ≡ seq_line s → at ≡ length first + 1 → drop at text ≡ top_line s ++ 10 ∷ rest
second_at text first s rest at is own count =
    let long : length first ≡ length (seq_line s) = ap length own in
    after_line text (seq_line s) (top_line s ++ 10 ∷ rest) 0 at (is ∙ lines_are s rest) (omega arith)

pub returns-clause-read : goal.returns-clause-read
returns-clause-read c =
    let kept : to_z w32 (of_z w32 c.in-Ok-top_of.top) ≡ c.in-Ok-top_of.top = to_z-of_z w32 c.in-Ok-top_of.top c.in-Ok-top_of.ensures.fits in
    none_read _ (subst (λ (z : ℤ). (negsuc 0 ≤ℤ z) × (z ≤ℤ pos 2147483647)) (sym kept) (c.in-Ok-top_of.ensures.least, c.in-Ok-top_of.ensures.most)) c.in-Ok.ensures.limit
    (omega arith, omega arith) (omega arith, omega arith) (omega arith, omega arith)

pub returns-in_err-first-clause-err : goal.returns-in_err-first-clause-err
returns-in_err-first-clause-err c = from_err c.from_residual.result c.from_residual.ensures.1 (λ fault own some s rest held is. c.in_err-first.ensures.found (seq_line s) (top_line s ++ 10 ∷ rest) (seq_plain s held) (is ∙ lines_are s rest))

pub returns-in-Err-clause-err : goal.returns-in-Err-clause-err
returns-in-Err-clause-err c some s rest held is =
    c.in-Err.ensures.err (c.within.ensures.line some) s.seq held.limit (c.in_ok-first.ensures.found (seq_line s) (top_line s ++ 10 ∷ rest) (seq_plain s held) (is ∙ lines_are s rest))

pub returns-in_err-second-clause-err : goal.returns-in_err-second-clause-err
returns-in_err-second-clause-err c =
    from_err c.from_residual-in_err-second.result c.from_residual-in_err-second.ensures.1 (λ fault own some s rest held is.
    let own = c.in_ok-first.ensures.found (seq_line s) (top_line s ++ 10 ∷ rest) (seq_plain s held) (is ∙ lines_are s rest) in
    c.in_err-second.ensures.found (top_line s) rest (top_plain s held) (second_at c.args.text.now c.in_ok-first.first.now s rest _ is own refl))

pub returns-in-Err-top_of-clause-err : goal.returns-in-Err-top_of-clause-err
returns-in-Err-top_of-clause-err c some s rest held is =
    let own = c.in_ok-first.ensures.found (seq_line s) (top_line s ++ 10 ∷ rest) (seq_plain s held) (is ∙ lines_are s rest) in
    let next = c.in_ok-second.ensures.found (top_line s) rest (top_plain s held) (second_at c.args.text.now c.in_ok-first.first.now s rest _ is own refl) in
    c.in-Err-top_of.ensures.err (c.within-in-Err-top_of.ensures.line some) (top_of s) held.formed.world.limits.top.0 held.formed.world.limits.top.1 next

pub returns-clause-ok : goal.returns-clause-ok
returns-clause-ok c s rest held is =
    let own = c.in_ok-first.ensures.found (seq_line s) (top_line s ++ 10 ∷ rest) (seq_plain s held) (is ∙ lines_are s rest) in
    let there = second_at c.args.text.now c.in_ok-first.first.now s rest (length c.in_ok-first.first.now + 1) is own refl in
    let next = c.in_ok-second.ensures.found (top_line s) rest (top_plain s held) there in
    let seq = c.in-Ok.ensures.ok s.seq held.limit own in
    let top = c.in-Ok-top_of.ensures.ok (top_of s) held.formed.world.limits.top.0 held.formed.world.limits.top.1 next in
    let kept : to_z w32 (of_z w32 c.in-Ok-top_of.top) ≡ c.in-Ok-top_of.top = to_z-of_z w32 c.in-Ok-top_of.top c.in-Ok-top_of.ensures.fits in
    let long : length c.in_ok-second.second.now ≡ length (top_line s) = ap length next in (
      (λ i. record { top = (kept ∙ top) i; next_prop = 1; next_verb = 1; next_petition = 1; seq = seq i }),
      after_line c.args.text.now (top_line s) rest (length c.in_ok-first.first.now + 1) _ there (omega arith),
    )
