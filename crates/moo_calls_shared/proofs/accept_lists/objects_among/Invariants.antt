use Rattle.std.{proofs.Common.{◌≡◌, ◌++◌, drop}, specs.Option.{option_map}}
use Rattle.moo_world.specs.Arguments.{objects_among}
use Rattle.moo_calls_shared.proofs.accept_lists.objects_among.Given as goal

-- what was found, and then the objects from here on, are the objects of the whole list
abbrev pub invariant-loop-value : goal.invariant-loop-value
invariant-loop-value l = option_map (λ rest. l.found.items ++ rest) (objects_among (drop l.value-index l.values)) ≡ objects_among l.values
