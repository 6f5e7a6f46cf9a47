use Rattle.std.{proofs.Common.{sym, ap, ◌∙◌}, proofs.lemmas.Result.{on_ok_weaker}}
use Rattle.moo_world.{specs.Fields.{changed}, proofs.Form.Fields.{IsWellFormed-field_changed}}
use Rattle.moo_calls_shared.{specs.Outcomes.{world_in}, proofs.Changed.{world_in-changed, Keeps-changed}}
use Rattle.moo_calls_shared.proofs.changing.change_row.Goals as goal

pub returns-clause-world : goal.returns-clause-world
returns-clause-world g c =
    on_ok_weaker c.put_object.result
    (world_in-changed (g.R.Rows.held c.args.rows.now) (g.R.Rows.held c.put_object.new.self) c.args.x c.in-Some.row.now c.apply_to.result (changed c.args.change) (sym c.in-Some.ensures)
    (c.apply_to.ensures ∙ ap (changed c.args.change) c.in_ok-row-in-Some.ensures)) c.put_object.ensures.ok

pub returns-clause-kept : goal.returns-clause-kept
returns-clause-kept g c =
    let old = g.R.Rows.held c.args.rows.now in
    on_ok_weaker c.put_object.result
    (λ put. Keeps-changed old (g.R.Rows.held c.put_object.new.self) c.args.x c.in-Some.row.now c.apply_to.result (changed c.args.change) (sym c.in-Some.ensures)
    (c.apply_to.ensures ∙ ap (changed c.args.change) c.in_ok-row-in-Some.ensures) put c.requires.good
    (IsWellFormed-field_changed (world_in old) c.args.x c.args.change c.requires.there c.requires.allowed c.requires.good.formed)) c.put_object.ensures.ok
