use Rattle.std.proofs.Common.{rules, sym, ◌∙◌}
use Rattle.moo_world.proofs.Shown.NumbersKept.{then_slots}
use Rattle.moo_calls_shared.specs.Outcomes.{world_in}
use Rattle.moo_calls.proofs.Created.{quota_still}
use Rattle.moo_calls.proofs.creating.create.Goals as goal

pub charge-requires-clause-quota : goal.charge-requires-clause-quota
charge-requires-clause-quota g c =
    c.quota_given-quota.ensures.quota ∙ quota_still (world_in (g.R.Rows.held c.args.rows.now)) (world_in (g.R.Rows.held c.make_object.new.rows)) c.args.owner c.in_ok-make_object.ensures.reads (sym c.valid_or_nothing.ensures ∙ c.if-not-valid_or_nothing.false)

pub returns : goal.returns
returns g c =
    let made = c.in_ok-make_object.ensures.kept in
    let charged = c.in_ok-charge.ensures in
    record {
      comes = search rules;
      kept = record {
        good = charged.kept.good;
        beside = charged.kept.beside ∙ made.beside;
        base = charged.kept.base ∙ made.base;
        numbers = then_slots (g.R.Rows.held c.args.rows.now).maps (g.R.Rows.held c.make_object.new.rows).maps (g.R.Rows.held c.charge.new.rows).maps made.numbers charged.rest;
      };
    }
