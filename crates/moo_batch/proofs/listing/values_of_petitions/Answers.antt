use Rattle.std.{proofs.Common.{rules, ◌≡◌, [], ◌∷◌, ◌++◌, sym, ◌∙◌}, specs.Prelude.{◌||◌}}
use Rattle.moo_rows.{specs.Walk.{petitions_left}, specs.declared.row.PetitionId.{PetitionId}, specs.declared.row.PetitionRow.{PetitionRow}}
use Rattle.moo_world.{specs.Objects.{same_object}, specs.Requests.{listed}}
use Rattle.moo_batch.proofs.Chosen.{one-chosen}
use Rattle.moo_batch.proofs.listing.values_of_petitions.Goals as goal

pub loop-id-preserved-in_ok-push : goal.loop-id-preserved-in_ok-push
loop-id-preserved-in_ok-push g c =
    let it = c.loop-id.id-iterator in
    let next = c.next.new.self in
    let pushed : c.push.new.self.items ≡ c.loop-id.found.items ++ listed (c.in-Some.id, c.in-Some.row.now) ∷ [] = search rules in
    one-chosen (λ (e : PetitionId × PetitionRow). c.args.all || same_object e.1.who c.args.programmer) listed c.loop-id.found.items c.push.new.self.items (petitions_left it.last (g.R.Rows.held it.rows.now).maps) (petitions_left next.last (g.R.Rows.held next.rows.now).maps) _ _
    pushed c.in-Some.ensures.steps (sym c.is_listed.ensures ∙ c.if-is_listed.true) c.loop-id.invariant
