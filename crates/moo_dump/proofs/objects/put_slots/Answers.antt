use Rattle.moo_dump.{proofs.Words.{arith, ◌≡◌, ◌++◌, [], sym, ap, ◌∙◌, append-nil, flat_map, world_of, ids_defined, slot_line_of}, proofs.Skipping.{one_up, shorter}}
use Rattle.moo_dump.proofs.objects.put_slots.Goals as goal
use Rattle.moo_tree.proofs.Words.{chain_of_no_row, look_ups}
use Rattle.moo_world.specs.World.{chain}

pub loop-row-smaller : goal.loop-row-smaller
loop-row-smaller g c = grind (arith, shorter)

pub loop-row-preserved : goal.loop-row-preserved
loop-row-preserved g c =
    let t = (g.R.Rows.held c.args.rows.now).maps in
    let ids : c.ids_listed.result.now ≡ ids_defined t c.loop-row.at = c.ids_listed.ensures ∙ c.requires.outline.listed c.loop-row.at in
    one_up t c.requires.tree c.loop-row.at c.in-Some.row.now c.in-Some.ensures c.skip_up_from-at.result (c.skip_up_from-at.ensures t c.requires.outline.up) c.args.x c.loop-row.out.items c.put_slots_of.new.out.items
    (c.in_ok-put_slots_of.ensures ∙ ap (λ l. c.loop-row.out.items ++ flat_map (slot_line_of t c.args.x) l) ids)
    ∙ c.loop-row.invariant

pub returns : goal.returns
returns g c = grind (arith, chain_of_no_row, append-nil)
