use Rattle.std.proofs.Common.{◌≡◌, map, take}
use Rattle.moo_value.specs.declared.value.Value.TheVariants.{Obj}
use Rattle.moo_world.proofs.values.object_list.Given as goal

abbrev pub invariant-loop-x : goal.invariant-loop-x
invariant-loop-x l = l.values.items ≡ map Obj (take l.x-index l.objects)
