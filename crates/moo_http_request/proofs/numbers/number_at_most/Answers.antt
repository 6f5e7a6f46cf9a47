use Rattle.moo_http_request.{proofs.Words.{◌≡◌, ◌<◌, ◌≤◌, ◌+◌, ◌*◌, ℕ, arith, sym, take, ◌∙◌, ap, value_after}, proofs.NumberLemmas.{value_after-more, digits-more}}
use Rattle.moo_http_request.proofs.numbers.number_at_most.Goals as goal

-- a number over the limit stays over it
exact_more : (most number next digit value longer : ℕ) → (number ≤ most → next ≡ 10 * number + digit) → (most < number → next ≡ number) → (number ≤ most → value ≡ number) → (most < number → most < value)
    → longer ≡ 10 * value + digit → next ≤ most → longer ≡ next
exact_more most number next digit value longer low high exact over more small = grind arith

over_more : (most number next digit value longer : ℕ) → (number ≤ most → next ≡ 10 * number + digit) → (most < number → next ≡ number) → (number ≤ most → value ≡ number) → (most < number → most < value)
    → longer ≡ 10 * value + digit → most < next → most < longer
over_more most number next digit value longer low high exact over more large = grind arith

pub loop-byte-preserved : goal.loop-byte-preserved
loop-byte-preserved c =
    let text = c.args.text.now in
    let i = c.loop-byte.byte-index in
    let digit = c.in_ok-digit_value.ensures in
    let longer : value_after 0 (take (i + 1) text) ≡ 10 * value_after 0 (take i text) + c.in_ok-digit_value.field-0 =
    value_after-more text i 0 c.loop-byte-test.true ∙ ap (λ d. 10 * value_after 0 (take i text) + d) (sym digit.1) in
    record {
      digits = digits-more text i 0 c.loop-byte-test.true c.loop-byte.invariant.digits digit.0;
      exact = exact_more c.args.most c.loop-byte.number c.with_digit-number.result c.in_ok-digit_value.field-0 (value_after 0 (take i text)) _ c.with_digit-number.ensures.low c.with_digit-number.ensures.over c.loop-byte.invariant.exact c.loop-byte.invariant.over longer;
      over = over_more c.args.most c.loop-byte.number c.with_digit-number.result c.in_ok-digit_value.field-0 (value_after 0 (take i text)) _ c.with_digit-number.ensures.low c.with_digit-number.ensures.over c.loop-byte.invariant.exact c.loop-byte.invariant.over longer;
    }
