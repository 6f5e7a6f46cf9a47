use Rattle.moo_cells.proofs.Exits.{err_of}
use Rattle.moo_cells.{proofs.Words.{ap, ◌≡◌, true, true≢false, sym, subst, ◌∙◌, ◌&&◌, list_all, Spells, Fits, spread, one_spelled, is_named, are_few, are_shallow}, proofs.Texts.{fails_none, calls_within, calls_held, calls_may, values_in}}
use Rattle.moo_cells.proofs.literal.calls_spelled.Goals as goal
use Rattle.moo_value.{specs.declared.value.Value.{Value}, specs.declared.value.Value.TheVariants.{List as a_list}, specs.Values.{Values}}

pub returns-in_err-calls-clause-err : goal.returns-in_err-calls-clause-err
returns-in_err-calls-clause-err c =
    err_of c.from_residual.result c.from_residual.ensures.1 (λ e is unreadable calls fits spells. fails_none c.in_err-calls.field-0.0 (a_list calls) (c.in_err-calls.ensures.only (a_list calls) (calls_within calls fits) spells) (is unreadable))

pub returns-in_default : goal.returns-in_default
returns-in_default c = record {
  ok = tt;
  fits = tt;
  err = λ unreadable calls fits spells. c.in_default.not-List _ (one_spelled c.args.bytes.now c.in_ok-calls.field-0 (a_list calls) c.in_ok-calls.ensures.spelled.1 (calls_within calls fits) c.in_ok-calls.ensures.spelled.0 spells);
}

pub returns-then-may_be_held-clause-fits : goal.returns-then-may_be_held-clause-fits
returns-then-may_be_held-clause-fits c = calls_held c.in-List.calls (subst Fits c.in-List.is c.in_ok-calls.ensures.spelled.1) (sym c.may_be_held.ensures ∙ c.if-may_be_held.true)

pub returns-else-may_be_held-clause-err : goal.returns-else-may_be_held-clause-err
returns-else-may_be_held-clause-err c = λ unreadable calls fits spells.
    let own : Fits (a_list c.in-List.calls) = subst Fits c.in-List.is c.in_ok-calls.ensures.spelled.1 in
    let spelled : Spells (a_list c.in-List.calls) c.args.bytes.now = subst (λ (v : Value). Spells v c.args.bytes.now) c.in-List.is c.in_ok-calls.ensures.spelled.0 in
    let same : c.in-List.calls ≡ calls = ap values_in (one_spelled c.args.bytes.now (a_list c.in-List.calls) (a_list calls) own (calls_within calls fits) spelled spells) in
    let held = subst (λ (v : Values). (list_all is_named (spread v) && (are_few v && are_shallow v)) ≡ true) (sym same) (calls_may calls fits) in true≢false (sym held ∙ (sym c.may_be_held.ensures ∙ c.if-may_be_held.false))

pub returns-then-may_be_held-clause-ok : goal.returns-then-may_be_held-clause-ok
returns-then-may_be_held-clause-ok c = subst (λ (v : Value). Spells v c.args.bytes.now) c.in-List.is c.in_ok-calls.ensures.spelled.0
