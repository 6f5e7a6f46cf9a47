use Rattle.moo_dump.{proofs.Words.{◌≡◌, ◌++◌, ObjNo, ids_listed, ids_defined}, specs.Lines.{ids_defined_by}}
use Rattle.moo_dump.proofs.definitions.all_definitions.Given as goal
use Rattle.moo_rows.specs.Walk.{props_left}

-- those so far, and those of the properties that are left
abbrev pub invariant-loop-id : goal.invariant-loop-id
invariant-loop-id g l =
    let left = props_left l.id-iterator.last (g.R.Rows.held l.id-iterator.rows.now).maps in
    (d : ObjNo) → ids_listed l.definitions d ++ ids_defined_by d left ≡ ids_defined (g.R.Rows.held l.rows).maps d
