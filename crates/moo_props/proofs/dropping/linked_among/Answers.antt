use Rattle.moo_props.{proofs.Words.{arith, ◌++◌, negsuc, [], ◌∷◌, Some, List, sym, ap, ◌∙◌, append_assoc, append-nil, entries, ObjNo, Maps, object_cmp, entries_past, linked_among}, proofs.WholeWalks.{linked_all, linked-end, linked-step}}
use Rattle.moo_props.proofs.dropping.linked_among.Goals as goal

-- the objects past one whose parent or place is x
abbrev left : Maps → ObjNo → ObjNo → List ObjNo
left t x from = linked_among x (entries_past object_cmp (Some from) (entries t.objects))

pub loop-y-init : goal.loop-y-init
loop-y-init g c = grind (arith, linked_all)

pub loop-y-preserved : goal.loop-y-preserved
loop-y-preserved g c = grind (arith, append_assoc, linked-step)

pub returns : goal.returns
returns g c = grind (arith, append-nil, linked-end)
