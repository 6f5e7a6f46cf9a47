use Rattle.moo_http_request.proofs.Words.{◌≡◌, ◌<◌, ◌≤◌, true, take, list_all, is_digit, value_after}
use Rattle.moo_http_request.proofs.numbers.number_at_most.Given as goal

abbrev pub invariant-loop-byte : goal.invariant-loop-byte
invariant-loop-byte l = record {
  digits : list_all is_digit (take l.byte-index l.text) ≡ true;
  exact : l.number ≤ l.most → value_after 0 (take l.byte-index l.text) ≡ l.number;
  over : l.most < l.number → l.most < value_after 0 (take l.byte-index l.text);
}
