use Rattle.moo_load.{proofs.Words.{◌≡◌, ℕ, List, ◌++◌, sym, subst, ◌∙◌, append_cancel_left, from_err, Value, Fits, print, spelled, Spells}, proofs.Listed.{refused}}
use Rattle.moo_value.proofs.Results.{is_ok}
use Rattle.moo_load.proofs.heading.value_after.Goals as goal

-- what follows the prefix spells the value
spells : (prefix literal line : List ℕ) (v : Value) → Fits v → line ≡ prefix ++ literal → line ≡ prefix ++ print v → Spells v literal
spells prefix literal line v fits is same = subst (Spells v) (append_cancel_left prefix (print v) literal (sym same ∙ is)) (spelled v fits.0)

pub returns-in_err-value-clause-err : goal.returns-in_err-value-clause-err
returns-in_err-value-clause-err c = from_err c.from_residual-in_err-value.result c.from_residual-in_err-value.ensures.1 (λ fault own unreadable v fits same. refused c.in_err-value.field-0.0 v (c.in_err-value.ensures.only v fits (spells c.args.prefix.now c.in_ok-literal.literal.now c.args.line.now v fits c.in_ok-literal.ensures.ok same)) (own unreadable))

pub returns-clause-ok : goal.returns-clause-ok
returns-clause-ok c v fits same =
    sym (is_ok v c.in_ok-value.value (c.in_ok-value.ensures.only v fits (spells c.args.prefix.now c.in_ok-literal.literal.now c.args.line.now v fits c.in_ok-literal.ensures.ok same)))
