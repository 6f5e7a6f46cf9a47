use Rattle.moo_http_request.{proofs.Words.{◌≡◌, ◌≤◌, ◌+◌, length, map, calls_from}, proofs.CallLemmas.{before_calls, texts_from}}
use Rattle.moo_http_request.proofs.body.read_calls.Given as goal

abbrev pub invariant-loop-text : goal.invariant-loop-text
invariant-loop-text l = record {
  counted : l.number ≡ l.text-index;
  few : length l.calls.items ≤ l.text-index;
  read : calls_from 1 (map (λ text. text.now) l.texts) ≡ before_calls l.calls.items (calls_from (l.text-index + 1) (texts_from l.texts l.text-index));
}
