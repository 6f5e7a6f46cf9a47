use Rattle.moo_load.{proofs.Words.{◌≡◌, ◌≤◌, ◌-◌, List, length, drop, AllByRecursion, PropId, Maps, Property, LastSlot, Entry, EntryFits, EachHas, entry_lines, AreRead, no_slot, SlotIsNext, slot_line_put}, proofs.Ahead.{Ahead, Nothing}}
use Rattle.moo_load.proofs.reading.take_slots.Given as goal

abbrev pub invariant-loop-line : goal.invariant-loop-line
invariant-loop-line l = record {
  within : l.at ≤ length l.text;
  read : AreRead l.rows.maps;
  ahead : (number : Property → PropId) (es : List Entry) → AllByRecursion EntryFits es → EachHas (SlotIsNext number) (slot_line_put number) es (no_slot, l.initial.rows.maps) → drop l.start l.text ≡ entry_lines es
      → Ahead (LastSlot × Maps) (slot_line_put number) (SlotIsNext number) Nothing es (no_slot, l.initial.rows.maps) (l.last, l.rows.maps) (drop l.at l.text);
}

abbrev pub decreases-loop-line : goal.decreases-loop-line
decreases-loop-line l = length l.text - l.at
