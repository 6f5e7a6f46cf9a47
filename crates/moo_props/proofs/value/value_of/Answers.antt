use Rattle.moo_props.{proofs.Words.{◌≡◌, length, sym, ap, ◌∙◌, arith, Clear, look_ups, chain_of_row}, proofs.Values.{set_read, clear_read, parent_has}}
use Rattle.moo_props.proofs.value.value_of.Goals as goal

pub returns-in-Set : goal.returns-in-Set
returns-in-Set g c = grind (arith, set_read)

pub loop-slot-smaller : goal.loop-slot-smaller
loop-slot-smaller g c = omega (arith, ap length (chain_of_row (look_ups (g.R.Rows.held c.args.rows.now).maps) c.requires.good.formed.tree c.loop-slot.at c.in-Some-object.row.now c.in-Some-object.ensures))

pub loop-slot-preserved : goal.loop-slot-preserved
loop-slot-preserved g c = grind (arith, parent_has, clear_read)
