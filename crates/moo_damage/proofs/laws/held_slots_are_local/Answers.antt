use Rattle.moo_damage.proofs.HeldLocal.{are_local}
use Rattle.moo_damage.proofs.laws.held_slots_are_local.Goals as goal

pub returns : goal.returns
returns c m t ids definers h = are_local m t ids definers h
