use Rattle.moo_http_request.{proofs.Words.{rules, ◌+◌, ◌∙◌, ap, sym, call_of, Whole, Bad, calls_from}, proofs.CallLemmas.{before_calls, texts_from, calls-more, calls-bad, calls-all}}
use Rattle.moo_http_request.proofs.body.read_calls.Goals as goal

pub returns-in-None : goal.returns-in-None
returns-in-None c =
    let none = rw c.in-None.is at c.in_ok-call.ensures in
    ap (λ n. Bad (n + 1)) c.loop-text.invariant.counted
    ∙ sym (c.loop-text.invariant.read ∙ calls-bad c.loop-text.calls.items c.args.texts.now c.loop-text.text-index _ c.loop-text-test.true (none ∙ ap call_of c.as_bytes.ensures.value))

pub loop-text-preserved : goal.loop-text-preserved
loop-text-preserved c =
    let some = rw c.in-Some.is at c.in_ok-call.ensures in
    record {
      counted = ap (λ n. n + 1) c.loop-text.invariant.counted;
      few = search rules;
      read = c.loop-text.invariant.read
          ∙ calls-more c.loop-text.calls.items c.in-Some.call c.args.texts.now c.loop-text.text-index _ c.loop-text-test.true (some ∙ ap call_of c.as_bytes.ensures.value)
          ∙ ap (λ calls. before_calls calls (calls_from (c.loop-text.text-index + 1 + 1) (texts_from c.args.texts.now (c.loop-text.text-index + 1)))) (sym c.in_ok-push-in-Some.ensures.items);
    }

pub returns : goal.returns
returns c = ap Whole c.from_vec.ensures ∙ sym (c.loop-text.invariant.read ∙ calls-all c.loop-text.calls.items c.args.texts.now c.loop-text.text-index c.loop-text-test.false)
