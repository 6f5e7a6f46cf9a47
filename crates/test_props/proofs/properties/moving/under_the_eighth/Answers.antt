use Rattle.std.specs.Prelude.{refl}
use Rattle.moo_world.specs.Objects.{same_text, folded}
use Rattle.test_props.proofs.properties.moving.under_the_eighth.Goals as goal

pub define_integer-requires-clause-name : goal.define_integer-requires-clause-name
unfolding same_text folded
define_integer-requires-clause-name g c = refl
