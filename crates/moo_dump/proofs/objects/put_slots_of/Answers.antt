use Rattle.moo_dump.{proofs.Words.{arith, slot_line_of}, proofs.FlatMaps.{one_more, all_made}}
use Rattle.moo_dump.proofs.objects.put_slots_of.Goals as goal

pub loop-id-preserved : goal.loop-id-preserved
loop-id-preserved g c =
    one_more (slot_line_of (g.R.Rows.held c.args.rows.now).maps c.args.x) c.args.out.now.items c.args.ids.now c.loop-id.id-index (record { 0 = 0 }) c.loop-id.out.items c.put_slot.new.out.items c.loop-id-test.true c.in_ok-put_slot.ensures c.loop-id.invariant

pub returns : goal.returns
returns g c = all_made (slot_line_of (g.R.Rows.held c.args.rows.now).maps c.args.x) c.args.out.now.items c.args.ids.now c.loop-id.id-index c.loop-id.out.items c.loop-id-test.false c.loop-id.invariant
