use Rattle.moo_text.proofs.Joining.{items_none, items_then, items_end, items_stop, whole_items, all_given}
use Rattle.moo_text.proofs.text_laws.items_are_joined.Goals as goal

pub returns : goal.returns
returns c = record { none = items_none; more = items_then; end = items_end; stop = items_stop; whole = whole_items; all = all_given }
