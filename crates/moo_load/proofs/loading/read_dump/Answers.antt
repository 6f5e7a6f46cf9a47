use Rattle.moo_load.{proofs.Words.{List, ℕ, ◌<◌, length, sym, subst, ◌∙◌, from_err, state_of}, proofs.Shown.Counts.{has_numbers}}
use Rattle.moo_load.proofs.loading.read_dump.Goals as goal

pub returns-in_err-rows-clause-complete : goal.returns-in_err-rows-clause-complete
returns-in_err-rows-clause-complete c =
    from_err c.from_residual.result c.from_residual.ensures.1 (λ fault own some short s held same.
    c.in_err-rows.ensures.err (λ e. some (own ∙ e)) s held (has_numbers s (subst (λ (t : List ℕ). length t < 4294967295) (sym same) short)) same)

pub returns-in_err-judge_rows-clause-complete : goal.returns-in_err-judge_rows-clause-complete
returns-in_err-judge_rows-clause-complete c =
    from_err c.from_residual-in_err-judge_rows.result c.from_residual-in_err-judge_rows.ensures.1 (λ fault own some short s held same.
    c.in_err-judge_rows.ensures.complete (λ e. some (own ∙ e)) s held (has_numbers s (subst (λ (t : List ℕ). length t < 4294967295) (sym same) short)) same (c.in_ok-rows.ensures.put s held same))

-- the rows are those of their own state, whose dump the text is
pub returns-clause-numbered : goal.returns-clause-numbered
returns-clause-numbered c =
    let good = c.in_ok-judge_rows.ensures.good in
    c.in_ok-rows.ensures.put (state_of c.in_ok-rows.rows.maps) (record { formed = record { world = good.formed; petitions = good.petitions }; limit = c.in_ok-rows.ensures.read.limit }) c.in_ok-judge_rows.ensures.same
