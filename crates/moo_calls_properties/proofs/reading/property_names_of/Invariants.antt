use Rattle.std.proofs.Common.{◌≡◌, ◌++◌, map}
use Rattle.moo_rows.specs.Links.{defined_left}
use Rattle.moo_world.specs.Rows.{prop_id}
use Rattle.moo_calls_properties.proofs.reading.property_names_of.Given as goal

-- the names so far, and those of the properties that are left
abbrev pub invariant-loop-id : goal.invariant-loop-id
invariant-loop-id g l =
    let left = defined_left l._id-iterator.definer l._id-iterator.last (g.R.Rows.held l._id-iterator.rows.now).maps in
    l.names.items ++ map (λ e. e.1.name) left ≡ map (λ e. e.1.name) (defined_left l.fn.x (prop_id 0) (g.R.Rows.held l.rows).maps)
