use Rattle.std.proofs.Common.{rules, ◌≡◌, sym, ◌∙◌}
use Rattle.moo_world.{specs.Outcomes.{fails}, specs.World.{is_object}, specs.VerbCalls.{add_verb}}
use Rattle.moo_calls_shared.{specs.Outcomes.{world_in}, proofs.Passed.{check_passed}}
use Rattle.moo_calls_verbs.proofs.adding.verb_taken.Goals as goal

pub returns-in_err-bits-clause-err : goal.returns-in_err-bits-clause-err
returns-in_err-bits-clause-err g c =
    let w = world_in (g.R.Rows.held c.args.rows.now) in
    let a = c.args.args in
    let verb = c.args.verb in
    let failed : add_verb w c.args.programmer c.args.x (verb.info.owner, verb.info.perms.now) verb.names.now (a.dobj.now, a.prep.now, a.iobj.now) ≡ fails c.in_err-bits.field-0.0 =
    check_passed (is_object w c.args.x) _ _ (sym c.valid.ensures ∙ c.if-not-valid.false)
    ∙ c.in_err-bits.ensures.err _
    in search rules
