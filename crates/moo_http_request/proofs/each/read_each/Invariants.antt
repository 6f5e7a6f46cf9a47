use Rattle.moo_http_request.{proofs.Words.{◌≡◌, map, take}, specs.Alone.{alone}}
use Rattle.moo_http_request.proofs.each.read_each.Given as goal

abbrev pub invariant-loop-text : goal.invariant-loop-text
invariant-loop-text l = l.batches.items ≡ map (λ text. alone l.programmer text.now) (take l.text-index l.texts)
