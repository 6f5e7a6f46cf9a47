use Rattle.moo_text.{proofs.Shared.{rules, arith, ◌∷◌, refl, between, skipping}, specs.declared.next.Next.TheVariants.{Truncated}, proofs.Giving.{handed_on, ReadsOn-breaks}, proofs.Carrying.{along_end, skipping_end, skipping_on}}
use Rattle.moo_text.proofs.feed.skip_batch.Goals as goal

pub returns-in_err-line-clause-cause : goal.returns-in_err-line-clause-cause
returns-in_err-line-clause-cause g c = handed_on _ _ c.from_residual.ensures.1 (ReadsOn-breaks c.loop-line.invariant.along c.in_err-line.ensures.cause)

pub returns-then-is_end_line-clause-item : goal.returns-then-is_end_line-clause-item
returns-then-is_end_line-clause-item g c = skipping_end c.in-Some.line.items c.loop-line.invariant.along (search rules) (search rules)

pub loop-line-preserved : goal.loop-line-preserved
loop-line-preserved g c = grind (arith, skipping_on)

pub returns-in-None-clause-item : goal.returns-in-None-clause-item
returns-in-None-clause-item g c = along_end (skipping c.args.number) (skipping c.args.number) (λ rest. Truncated ∷ between rest) c.loop-line.invariant.along (search rules) refl
