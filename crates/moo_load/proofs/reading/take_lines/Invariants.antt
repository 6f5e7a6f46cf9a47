use Rattle.moo_load.{proofs.Words.{◌≡◌, ◌≤◌, ◌-◌, List, length, drop, AllByRecursion, Maps, Entry, EntryFits, NumberIsLeft, entry_lines, entry_taken, AreRead}, proofs.Ahead.{Ahead, Nothing}}
use Rattle.moo_load.proofs.reading.take_lines.Given as goal

abbrev pub invariant-loop-line : goal.invariant-loop-line
invariant-loop-line l = record {
  within : l.at ≤ length l.text;
  read : AreRead l.rows.maps;
  ahead : (es : List Entry) → AllByRecursion EntryFits es → drop l.start l.text ≡ entry_lines es → Ahead Maps entry_taken Nothing NumberIsLeft es l.initial.rows.maps l.rows.maps (drop l.at l.text);
}

abbrev pub decreases-loop-line : goal.decreases-loop-line
decreases-loop-line l = length l.text - l.at
