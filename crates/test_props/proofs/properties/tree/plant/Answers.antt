use Rattle.std.specs.Prelude.{refl}
use Rattle.moo_world.specs.Objects.{same_text, folded}
use Rattle.test_props.proofs.properties.tree.plant.Goals as goal

pub define_integer-requires-clause-name : goal.define_integer-requires-clause-name
unfolding same_text folded
define_integer-requires-clause-name g c = refl

pub define_integer-requires-2-clause-name : goal.define_integer-requires-2-clause-name
unfolding same_text folded
define_integer-requires-2-clause-name g c = refl

pub define_integer-requires-3-clause-name : goal.define_integer-requires-3-clause-name
unfolding same_text folded
define_integer-requires-3-clause-name g c = refl
