use Rattle.std.specs.Prelude.{Option, ◌-◌}
use Rattle.moo_props.proofs.Words.{PropId, prop_cmp, prop_id, IsFirst, has_under_name}
use Rattle.moo_props.proofs.name_hashes.has_name.Given as goal

-- what is first past `last` is first of all
abbrev pub invariant-loop-id : goal.invariant-loop-id
invariant-loop-id g l =
    let t = (g.R.Rows.held l.rows).maps in
    (r : Option PropId) → IsFirst prop_cmp (has_under_name t l.fn.x l.fn.name) l.last r → IsFirst prop_cmp (has_under_name t l.fn.x l.fn.name) (prop_id 0) r

-- the numbers past `last`
abbrev pub decreases-loop-id : goal.decreases-loop-id
decreases-loop-id g l = 4294967295 - l.last.0
