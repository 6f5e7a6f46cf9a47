-- The checks that `petition` makes before it looks for a number.
use Rattle.std.specs.List.{list_all}
use Rattle.moo_value.specs.{Value.{spread}, Values.{Values}}
use Rattle.moo_world.specs.{declared.reason.Reason.TheVariants.{Unnamed, NotFew, Unasked, Deep}, Outcomes.{Outcome, require◌else◌, ◌>>◌}}
use Rattle.moo_world.specs.{Petitions.{is_named, are_few, are_shallow}, Requests.{State, are_on_world}}

-- `petition` of these calls: it fails unless each is a list that begins with a string, there are 1 to 64, each is a call on the world, and
-- the lists nest at most 30 deep; then it goes on
abbrev pub taking_calls : Values → Outcome State → Outcome State
taking_calls calls then = do
  require list_all is_named (spread calls) else Unnamed
  require are_few calls else NotFew
  require are_on_world calls else Unasked
  require are_shallow calls else Deep
  then
