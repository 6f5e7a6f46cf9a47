use Rattle.moo_text.{proofs.Shared.{◌+◌, [], ◌∷◌, arith, rules, refl, between, within, skipping}, specs.declared.next.Next.TheVariants.{Truncated}, proofs.Giving.{handed_on, ReadsOn-breaks}, proofs.Carrying.{along_end, along_refused, breaks_after, first_after, within_blank, within_end, bad_line, call_too_many, one_call, room_for_one}}
use Rattle.moo_text.proofs.feed.rest_of_batch.Goals as goal

pub returns-in_err-line-clause-cause : goal.returns-in_err-line-clause-cause
returns-in_err-line-clause-cause g c = handed_on _ _ c.from_residual.ensures.1 (ReadsOn-breaks c.loop-calls.invariant.along c.in_err-line.ensures.cause)

pub returns-in_default-clause-item : goal.returns-in_default-clause-item
returns-in_default-clause-item g c = along_end (within c.args.header [] 1) (within c.args.header c.loop-calls.calls.items c.loop-calls.number) (λ rest. Truncated ∷ between rest) c.loop-calls.invariant.along (search rules) refl

pub returns-in_default-clause-falls : goal.returns-in_default-clause-falls
returns-in_default-clause-falls g c = grind arith

pub loop-calls-preserved-then-is_blank_line : goal.loop-calls-preserved-then-is_blank_line
loop-calls-preserved-then-is_blank_line g c = grind (arith, within_blank)

pub returns-then-is_end_line-clause-item : goal.returns-then-is_end_line-clause-item
returns-then-is_end_line-clause-item g c = within_end c.in-Some.line.items c.loop-calls.invariant.along (search rules) (search rules) (search rules) (search rules)

pub returns-in_err-call-clause-cause : goal.returns-in_err-call-clause-cause
returns-in_err-call-clause-cause g c = handed_on _ _ c.from_residual-in_err-call.ensures.1 (along_refused c.in-Some.line.items c.loop-calls.invariant.along (search rules))

pub returns-then-len-ge-MOST_CALLS-clause-item : goal.returns-then-len-ge-MOST_CALLS-clause-item
returns-then-len-ge-MOST_CALLS-clause-item g c =
    first_after (within c.args.header [] 1) (skipping (c.loop-calls.number + 1)) _ c.skip_batch.result (call_too_many c.in-Some.line.items c.loop-calls.invariant.along (search rules) (search rules) (search rules) (omega (arith, c.loop-calls.calls.ok.0, c.len.ensures))) c.skip_batch.ensures.item

pub returns-then-len-ge-MOST_CALLS-clause-cause : goal.returns-then-len-ge-MOST_CALLS-clause-cause
returns-then-len-ge-MOST_CALLS-clause-cause g c =
    breaks_after _ c.skip_batch.result (call_too_many c.in-Some.line.items c.loop-calls.invariant.along (search rules) (search rules) (search rules) (omega (arith, c.loop-calls.calls.ok.0, c.len.ensures))) c.skip_batch.ensures.cause

pub returns-in_err-push-clause-cause : goal.returns-in_err-push-clause-cause
returns-in_err-push-clause-cause g c = handed_on _ _ c.from_residual-in_err-push.ensures.1 (along_refused c.in-Some.line.items c.loop-calls.invariant.along (search rules))

pub returns-in_default-2-clause-item : goal.returns-in_default-2-clause-item
returns-in_default-2-clause-item g c = first_after (within c.args.header [] 1) (skipping (c.loop-calls.number + 1)) _ c.skip_batch-in_default-2.result (bad_line c.in-Some.line.items c.loop-calls.invariant.along (search rules) (search rules) (search rules) (search rules)) c.skip_batch-in_default-2.ensures.item

pub returns-in_default-2-clause-cause : goal.returns-in_default-2-clause-cause
returns-in_default-2-clause-cause g c = breaks_after _ c.skip_batch-in_default-2.result (bad_line c.in-Some.line.items c.loop-calls.invariant.along (search rules) (search rules) (search rules) (search rules)) c.skip_batch-in_default-2.ensures.cause

pub loop-calls-preserved : goal.loop-calls-preserved
loop-calls-preserved g c = grind (arith, room_for_one, one_call)
