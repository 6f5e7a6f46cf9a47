use Rattle.std.proofs.Common.{◌≡◌, map}
use Rattle.moo_value.specs.declared.value.Value.TheVariants.{Str}
use Rattle.moo_world.proofs.values.text_list.Given as goal

abbrev pub invariant-loop-text : goal.invariant-loop-text
invariant-loop-text l = l.values.items ≡ map Str l.yielded
