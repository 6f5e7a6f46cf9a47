use Rattle.moo_props.{proofs.Words.{arith, ap, ◌∙◌, is_some, list_any, defined_left, folded, world_of, slot_of}, proofs.NameClashes.{any_defined, meets_by_slots}}
use Rattle.moo_props.proofs.clashing.meets_on.Goals as goal

pub loop-id-init : goal.loop-id-init
loop-id-init g c =
    let t = (g.R.Rows.held c.args.rows.now).maps in
    ap (λ walk. list_any (λ e. is_some (slot_of (world_of t) c.args.new (folded e.1.name))) (defined_left walk.definer walk.last (g.R.Rows.held walk.rows.now).maps)) c.into_iter-id-iterator.ensures.into_iter_gives
    ∙ ap (list_any (λ e. is_some (slot_of (world_of t) c.args.new (folded e.1.name)))) c.each_defined-id-items.ensures
    ∙ any_defined t c.requires.good.sound (λ m. is_some (slot_of (world_of t) c.args.new (folded m))) c.args.y
    ∙ meets_by_slots (world_of t) c.requires.good.formed c.args.new c.args.y
