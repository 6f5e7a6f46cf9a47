use Rattle.moo_memory.proofs.Words.{Option, ◌-◌, get, PropId, contents, prop_cmp, IsFirst, row_named, overlaid}
use Rattle.moo_memory.proofs.draft.DraftRows.next_named.Given as goal

-- what is first past `last` is first past `after`
abbrev pub invariant-loop-key : goal.invariant-loop-key
invariant-loop-key g l =
    let d = l.self-inside in
    let passes = λ (q : PropId). row_named l.x l.name (get (overlaid (g.R.Rows.held d.base.now).maps.props (contents prop_cmp d.props)) q) in
    (r : Option PropId) → IsFirst prop_cmp passes l.last r → IsFirst prop_cmp passes l.fn.after r

-- the numbers past `last`
abbrev pub decreases-loop-key : goal.decreases-loop-key
decreases-loop-key g l = 4294967295 - l.last.0
