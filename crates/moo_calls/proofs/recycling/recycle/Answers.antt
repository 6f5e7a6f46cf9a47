use Rattle.std.proofs.Common.{rules, ◌∙◌}
use Rattle.moo_world.{specs.Rows.{world_shown}, proofs.Shown.NumbersKept.{then_slots}}
use Rattle.moo_calls.proofs.recycling.recycle.Goals as goal

pub returns : goal.returns
unfolding world_shown
returns g c =
    let dropped = c.in_ok-_dropped.ensures.kept in
    let quota = c.in_ok-return_quota.ensures in
    record {
      comes = search rules;
      kept = record {
        good = quota.kept.good;
        beside = quota.kept.beside ∙ dropped.beside;
        base = quota.kept.base ∙ dropped.base;
        numbers = then_slots (g.R.Rows.held c.args.rows.now).maps (g.R.Rows.held c.drop_object.new.rows).maps (g.R.Rows.held c.return_quota.new.rows).maps dropped.numbers quota.rest;
      };
    }
