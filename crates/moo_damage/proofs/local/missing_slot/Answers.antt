use Rattle.moo_damage.proofs.local.missing_slot.Goals as goal

pub returns-then-slots_are_owed : goal.returns-then-slots_are_owed
returns-then-slots_are_owed g c = (c.requires.hold c.if-slots_are_owed.true).there
