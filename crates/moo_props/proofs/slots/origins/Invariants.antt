use Rattle.moo_props.proofs.Words.{◌≡◌, ◌++◌, drop, origins}
use Rattle.moo_props.proofs.slots.origins.Given as goal

-- those so far, and those of the properties that are left
abbrev pub invariant-loop-id : goal.invariant-loop-id
invariant-loop-id g l =
    let slots = (g.R.Rows.held l.rows).maps.slots in
    l.found.items ++ origins slots l.q (drop l.id-index l.ids) ≡ origins slots l.q l.ids
