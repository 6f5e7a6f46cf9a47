-- To which places accepted batches lead.
use Rattle.std.specs.Prelude.{List}
use Rattle.moo_world.specs.declared.call.Batch.{Batch}
use Rattle.moo_store.specs.{Moment.{Moment, LeadsByEach}, Place.{Place, MayBeLeft}}

-- accepted batches, one after another, lead from the moment to each moment that may be left at the place
abbrev pub LeadsTo : Moment → Place → Type 0
LeadsTo m place = (t : Moment) → MayBeLeft place t → (batches : List Batch) × LeadsByEach m batches t
