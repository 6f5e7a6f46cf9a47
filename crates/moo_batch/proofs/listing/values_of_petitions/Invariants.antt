use Rattle.std.{proofs.Common.{◌||◌}, specs.FinMap.{entries}}
use Rattle.moo_rows.specs.Walk.{petitions_left}
use Rattle.moo_world.{specs.Objects.{same_object}, specs.Requests.{listed}}
use Rattle.moo_batch.proofs.Chosen.{IsChosen}
use Rattle.moo_batch.proofs.listing.values_of_petitions.Given as goal

-- those listed, and those left
abbrev pub invariant-loop-id : goal.invariant-loop-id
invariant-loop-id g l =
    IsChosen (λ e. l.all || same_object e.1.who l.programmer) listed l.found.items (petitions_left l.id-iterator.last (g.R.Rows.held l.id-iterator.rows.now).maps) (entries (g.R.Rows.held l.rows).maps.petitions)
