use Rattle.moo_text.proofs.Shared.{◌≡◌, ◌<◌, ◌^◌, drop, list_all, is_digit, value_after}
use Rattle.moo_text.proofs.header.place_number.Given as goal

abbrev pub invariant-loop-digit : goal.invariant-loop-digit
invariant-loop-digit l = record {
  bounded : l.place < 10 ^ l.digit-index;
  goes_on : value_after l.place (drop l.digit-index l.digits) ≡ value_after 0 l.digits;
  are_digits : list_all is_digit (drop l.digit-index l.digits) ≡ list_all is_digit l.digits;
}
