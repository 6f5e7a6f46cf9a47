use Rattle.std.proofs.Common.{◌≡◌, map, take}
use Rattle.moo_value.specs.declared.value.Value.TheVariants.{Obj}
use Rattle.moo_cells.proofs.literal.objects_in.Given as goal

abbrev pub invariant-loop-value : goal.invariant-loop-value
invariant-loop-value l = take l.value-index l.values ≡ map Obj l.objects.items
