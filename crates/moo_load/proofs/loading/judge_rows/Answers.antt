use Rattle.moo_load.{proofs.Words.{Option, subst, ◌∙◌, state_of, IfSome, IfErr-weaker}, proofs.Shown.Good.{good_rows, same_state, same_dump}}
use Rattle.moo_load.proofs.loading.judge_rows.Goals as goal
use Rattle.moo_damage.{specs.declared.kind.Key.{Key}, specs.declared.kind.Kind.{Kind}, specs.Kinds.{IsFirstInRows}, proofs.Clean.{clean}, proofs.Told.{none_told}}

pub returns-in-Some-clause-fault : goal.returns-in-Some-clause-fault
returns-in-Some-clause-fault g c =
    let m = (g.R.Rows.held c.args.rows.now).maps in
    let first = subst (λ (o : Option (Kind × Key)). IfSome o (λ d. IsFirstInRows m d.0 d.1)) c.in-Some.is c.in_ok-kind.ensures.first in
    (m, c.requires, first)

-- no damage is met in the rows of a state
pub returns-in-Some-clause-complete : goal.returns-in-Some-clause-complete
returns-in-Some-clause-complete g c some s held numbers same rows =
    let m = (g.R.Rows.held c.args.rows.now).maps in
    let first = subst (λ (o : Option (Kind × Key)). IfSome o (λ d. IsFirstInRows m d.0 d.1)) c.in-Some.is c.in_ok-kind.ensures.first in
    none_told m (clean m (good_rows s held.formed m rows numbers)) c.in-Some.kind c.in-Some.key first.1.0

-- and their dump is that of the state
pub returns-in-None-clause-complete : goal.returns-in-None-clause-complete
returns-in-None-clause-complete g c =
    let m = (g.R.Rows.held c.args.rows.now).maps in
    IfErr-weaker c.check_dump.result _ _ (λ fault differ some s held numbers same rows. differ some (same_dump (state_of m) s (same_state s held.formed m rows) ∙ same)) c.check_dump.ensures.err
