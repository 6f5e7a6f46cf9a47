use Rattle.std.proofs.Common.{rules, ◌≡◌, refl, ap, sym, ◌∙◌}
use Rattle.moo_world.{specs.Outcomes.{Done, fails}, specs.Answers.{zero}, specs.Directories.{verb_info_set}, specs.VerbCalls.{set_verb_info}}
use Rattle.moo_verbs.specs.Places.{verb_place}
use Rattle.moo_calls_shared.{specs.Outcomes.{world_in}, proofs.{Passed.{check_passed, found_passed}, Refused.{check_failed, found_failed}}}
use Rattle.moo_calls_verbs.proofs.changing.set_verb_info.Goals as goal

pub returns-then-not-valid : goal.returns-then-not-valid
returns-then-not-valid g c =
    record {
      comes = (check_failed _ _ _ (sym c.valid.ensures ∙ c.if-not-valid.true), refl);
      kept = tt;
    }

pub returns-in_default : goal.returns-in_default
returns-in_default g c =
    record {
      comes = (check_passed _ _ _ (sym c.valid.ensures ∙ c.if-not-valid.false) ∙ found_failed _ _ _ (sym c.in_default.ensures.verb), refl);
      kept = tt;
    }

pub returns-in_err-bits : goal.returns-in_err-bits
returns-in_err-bits g c =
    let w = world_in (g.R.Rows.held c.args.rows.now) in
    let info = c.args.verb.info in
    let failed : set_verb_info w c.args.programmer c.args.x c.args.desc.now (info.owner, info.perms.now) c.args.verb.names.now ≡ fails c.in_err-bits.field-0.0 =
    check_passed _ _ _ (sym c.valid.ensures ∙ c.if-not-valid.false) ∙ found_passed _ _ _ _ (sym c.in-Some.ensures.verb) ∙ c.in_err-bits.ensures.err _ in search rules

pub returns-then-not-may_write_verb : goal.returns-then-not-may_write_verb
returns-then-not-may_write_verb g c =
    record {
      comes = (
        check_passed _ _ _ (sym c.valid.ensures ∙ c.if-not-valid.false) ∙ found_passed _ _ _ _ (sym c.in-Some.ensures.verb)
            ∙ check_passed _ _ _ c.in_ok-bits.ensures.owner ∙ found_passed _ _ _ _ c.in_ok-bits.ensures.bits ∙ check_passed _ _ _ c.in_ok-bits.ensures.names
            ∙ check_failed _ _ _ (sym c.may_write_verb.ensures ∙ c.if-not-may_write_verb.true),
        refl,
      );
      kept = tt;
    }

pub returns-then-not-may_make_owner : goal.returns-then-not-may_make_owner
returns-then-not-may_make_owner g c =
    record {
      comes = (
        check_passed _ _ _ (sym c.valid.ensures ∙ c.if-not-valid.false) ∙ found_passed _ _ _ _ (sym c.in-Some.ensures.verb)
            ∙ check_passed _ _ _ c.in_ok-bits.ensures.owner ∙ found_passed _ _ _ _ c.in_ok-bits.ensures.bits ∙ check_passed _ _ _ c.in_ok-bits.ensures.names
            ∙ check_passed _ _ _ (sym c.may_write_verb.ensures ∙ c.if-not-may_write_verb.false) ∙ check_failed _ _ _ (sym c.may_make_owner.ensures ∙ c.if-not-may_make_owner.true),
        refl,
      );
      kept = tt;
    }

pub returns : goal.returns
returns g c =
    let old = g.R.Rows.held c.args.rows.now in
    let place = verb_place old.maps c.args.x c.in-Some.found.id in
    record {
      comes = check_passed _ _ _ (sym c.valid.ensures ∙ c.if-not-valid.false) ∙ found_passed _ _ _ _ (sym c.in-Some.ensures.verb)
          ∙ check_passed _ _ _ c.in_ok-bits.ensures.owner ∙ found_passed _ _ _ _ c.in_ok-bits.ensures.bits ∙ check_passed _ _ _ c.in_ok-bits.ensures.names
          ∙ check_passed _ _ _ (sym c.may_write_verb.ensures ∙ c.if-not-may_write_verb.false) ∙ check_passed _ _ _ (sym c.may_make_owner.ensures ∙ c.if-not-may_make_owner.false)
          ∙ ap (λ names. Done zero (verb_info_set (world_in old) c.args.x place c.args.verb.info.owner c.in_ok-bits.bits names)) (sym c.in_ok-names.ensures) ∙ ap (Done zero) (sym c.in_ok-set_info.ensures.world);
      kept = c.in_ok-set_info.ensures.kept;
    }
