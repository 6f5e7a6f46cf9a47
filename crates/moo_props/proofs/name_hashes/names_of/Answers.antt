use Rattle.moo_props.{proofs.Words.{arith, ap, ◌∙◌, or_right, is_some, list_any, get, contents, slots_of_left, hashed_cmp}, proofs.Folding.{is_id}, proofs.HashedNames.{id_met}}
use Rattle.moo_rows.specs.Named.{name_hash}
use Rattle.moo_props.proofs.name_hashes.names_of.Goals as goal

pub loop-key-init : goal.loop-key-init
loop-key-init g c id row there held = grind (arith, or_right, is_id, id_met)
