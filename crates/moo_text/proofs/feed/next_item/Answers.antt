use Rattle.moo_text.{proofs.Shared.{rules, arith, [], refl, between, within, skipping}, proofs.Giving.{handed_on, ReadsOn-breaks}, proofs.Carrying.{along_end, along_refused, breaks_after, first_after, first_is_next, between_blank, between_end, between_header, between_none}}
use Rattle.moo_text.proofs.feed.next_item.Goals as goal

pub returns-in_err-line-clause-cause : goal.returns-in_err-line-clause-cause
returns-in_err-line-clause-cause g c = handed_on _ _ c.from_residual.ensures.1 (ReadsOn-breaks c.loop-line.invariant.along c.in_err-line.ensures.cause)

pub returns-in_default-clause-item : goal.returns-in_default-clause-item
returns-in_default-clause-item g c = along_end between between (λ rest. []) c.loop-line.invariant.along (search rules) refl

pub loop-line-preserved : goal.loop-line-preserved
loop-line-preserved g c = grind (arith, between_blank)

pub returns-then-is_end_line-clause-item : goal.returns-then-is_end_line-clause-item
returns-then-is_end_line-clause-item g c = between_end c.in-Some.line.items c.loop-line.invariant.along (search rules) (search rules) (search rules)

pub returns-in-Ok-clause-item : goal.returns-in-Ok-clause-item
returns-in-Ok-clause-item g c =
    first_is_next _ _ c.rest_of_batch.result (first_after between (within c.in-Ok.header [] 1) _ c.rest_of_batch.result (between_header c.in-Some.line.items c.loop-line.invariant.along (search rules) c.in-Ok.header (search rules) (search rules) (search rules)) c.rest_of_batch.ensures.item)

pub returns-in-Ok-clause-cause : goal.returns-in-Ok-clause-cause
returns-in-Ok-clause-cause g c = breaks_after _ c.rest_of_batch.result (between_header c.in-Some.line.items c.loop-line.invariant.along (search rules) c.in-Ok.header (search rules) (search rules) (search rules)) c.rest_of_batch.ensures.cause

pub returns-in-Err-clause-item : goal.returns-in-Err-clause-item
returns-in-Err-clause-item g c = first_is_next _ _ c.skip_batch.result (first_after between (skipping 1) _ c.skip_batch.result (between_none c.in-Some.line.items c.loop-line.invariant.along (search rules) (search rules) (search rules) (search rules)) c.skip_batch.ensures.item)

pub returns-in-Err-clause-cause : goal.returns-in-Err-clause-cause
returns-in-Err-clause-cause g c = breaks_after _ c.skip_batch.result (between_none c.in-Some.line.items c.loop-line.invariant.along (search rules) (search rules) (search rules) (search rules)) c.skip_batch.ensures.cause

pub returns-in-Err-OutOfMemory-clause-cause : goal.returns-in-Err-OutOfMemory-clause-cause
returns-in-Err-OutOfMemory-clause-cause g c = along_refused c.in-Some.line.items c.loop-line.invariant.along (search rules)
