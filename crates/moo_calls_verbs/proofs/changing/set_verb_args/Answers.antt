use Rattle.std.proofs.Common.{refl, ap, sym, ◌∙◌}
use Rattle.moo_world.{specs.Outcomes.{Done}, specs.Answers.{zero}}
use Rattle.moo_calls_shared.proofs.{Passed.{check_passed, found_passed}, Refused.{check_failed, found_failed}}
use Rattle.moo_calls_verbs.proofs.changing.set_verb_args.Goals as goal

pub returns-then-not-valid : goal.returns-then-not-valid
returns-then-not-valid g c =
    record {
      comes = (check_failed _ _ _ (sym c.valid.ensures ∙ c.if-not-valid.true), refl);
      kept = tt;
    }

pub returns-in_default : goal.returns-in_default
returns-in_default g c =
    record {
      comes = (check_passed _ _ _ (sym c.valid.ensures ∙ c.if-not-valid.false) ∙ found_failed _ _ _ (sym c.in_default.ensures.verb), refl);
      kept = tt;
    }

pub returns-in_default-args_named : goal.returns-in_default-args_named
returns-in_default-args_named g c =
    record {
      comes = (
        check_passed _ _ _ (sym c.valid.ensures ∙ c.if-not-valid.false) ∙ found_passed _ _ _ _ (sym c.in-Some.ensures.verb) ∙ found_failed _ _ _ (sym c.in_default-args_named.ensures),
        refl,
      );
      kept = tt;
    }

pub returns-then-not-may_write_verb : goal.returns-then-not-may_write_verb
returns-then-not-may_write_verb g c =
    record {
      comes = (
        check_passed _ _ _ (sym c.valid.ensures ∙ c.if-not-valid.false) ∙ found_passed _ _ _ _ (sym c.in-Some.ensures.verb)
            ∙ found_passed _ _ _ _ (sym c.in-Some-args_named.ensures) ∙ check_failed _ _ _ (sym c.may_write_verb.ensures ∙ c.if-not-may_write_verb.true),
        refl,
      );
      kept = tt;
    }

pub returns : goal.returns
returns g c =
    record {
      comes = check_passed _ _ _ (sym c.valid.ensures ∙ c.if-not-valid.false) ∙ found_passed _ _ _ _ (sym c.in-Some.ensures.verb) ∙ found_passed _ _ _ _ (sym c.in-Some-args_named.ensures)
          ∙ check_passed _ _ _ (sym c.may_write_verb.ensures ∙ c.if-not-may_write_verb.false) ∙ ap (Done zero) (sym c.in_ok-set_args.ensures.world);
      kept = c.in_ok-set_args.ensures.kept;
    }
