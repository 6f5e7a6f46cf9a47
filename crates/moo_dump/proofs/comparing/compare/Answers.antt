use Rattle.moo_dump.{proofs.Words.{◌≡◌, ◌<◌, ◌++◌, [], List, ℕ, length, take, sym, subst, ◌∙◌, arith, codes, take_all, err_from_is_err_and, state_of, CompareFault, PartAt, TellsDifference, dump, objects_text, petitions_text}, proofs.Compared.{goes_on, headed, with_end, with_objects, with_petitions}}
use Rattle.moo_dump.proofs.comparing.compare.Goals as goal

-- where the text departs from what the dump is, it departs from the dump
of_dump : (text all dumped : List ℕ) (fault new : CompareFault) → new ≡ fault → all ≡ dumped → TellsDifference all text fault → TellsDifference dumped text new
of_dump text all dumped fault new same is tells = subst (TellsDifference dumped text) (sym same) (subst (λ (l : List ℕ). TellsDifference l text fault) is tells)

pub returns-in_err-at-clause-err : goal.returns-in_err-at-clause-err
returns-in_err-at-clause-err g c =
    let t = (g.R.Rows.held c.args.rows.now).maps in
    let rest = objects_text t ++ (petitions_text t ++ codes "end\n") in
    let p = err_from_is_err_and c.from_residual-in_err-at.result c.from_residual-in_err-at.ensures.1 in
    rw p.1 (of_dump c.args.text.now (c.deref.result.now ++ rest) (dump (state_of t)) c.in_err-at.field-0.0 p.0 p.2 (headed t c.deref.result.now [] [] [] (c.deref.ensures.value ∙ c.in_ok-heading.ensures)) (c.in_err-at.ensures.err rest))

pub returns-in_err-at-2-clause-err : goal.returns-in_err-at-2-clause-err
returns-in_err-at-2-clause-err g c =
    let t = (g.R.Rows.held c.args.rows.now).maps in
    let one = take c.in_ok-at.at c.args.text.now in
    let rest = petitions_text t ++ codes "end\n" in
    let p = err_from_is_err_and c.from_residual-in_err-at-2.result c.from_residual-in_err-at-2.ensures.1 in
    rw p.1 (of_dump c.args.text.now (one ++ (objects_text t ++ rest)) (dump (state_of t)) c.in_err-at-2.field-0.0 p.0 p.2 (headed t one [] [] [] (c.in_ok-at.ensures.ok ∙ c.deref.ensures.value ∙ c.in_ok-heading.ensures)) (c.in_err-at-2.ensures.err rest))

pub returns-in_err-at-3-clause-err : goal.returns-in_err-at-3-clause-err
returns-in_err-at-3-clause-err g c =
    let t = (g.R.Rows.held c.args.rows.now).maps in
    let two = take c.in_ok-at-2.at c.args.text.now in
    let p = err_from_is_err_and c.from_residual-in_err-at-3.result c.from_residual-in_err-at-3.ensures.1 in
    rw p.1 (of_dump c.args.text.now (two ++ (petitions_text t ++ codes "end\n")) (dump (state_of t)) c.in_err-at-3.field-0.0 p.0 p.2
    (with_objects t (take c.in_ok-at.at c.args.text.now) two [] [] (c.in_ok-at.ensures.ok ∙ c.deref.ensures.value ∙ c.in_ok-heading.ensures) c.in_ok-at-2.ensures.ok) (c.in_err-at-3.ensures.err (codes "end\n")))

pub returns-in_err-at-4-clause-err : goal.returns-in_err-at-4-clause-err
returns-in_err-at-4-clause-err g c =
    let t = (g.R.Rows.held c.args.rows.now).maps in
    let three = take c.in_ok-at-3.at c.args.text.now in
    let p = err_from_is_err_and c.from_residual-in_err-at-4.result c.from_residual-in_err-at-4.ensures.1 in
    rw p.1 (of_dump c.args.text.now (three ++ (codes "end\n" ++ [])) (dump (state_of t)) c.in_err-at-4.field-0.0 p.0 p.2
    (with_petitions t (take c.in_ok-at.at c.args.text.now) (take c.in_ok-at-2.at c.args.text.now) three [] (c.in_ok-at.ensures.ok ∙ c.deref.ensures.value ∙ c.in_ok-heading.ensures) c.in_ok-at-2.ensures.ok c.in_ok-at-3.ensures.ok) (c.in_err-at-4.ensures.err []))

pub returns-then-at-text-clause-err : goal.returns-then-at-text-clause-err
returns-then-at-text-clause-err g c =
    let more : c.in_ok-at-4.at < length c.args.text.now = omega arith in
    subst (λ (d : List ℕ). PartAt d c.args.text.now c.in_ok-at-4.at)
    (with_end (g.R.Rows.held c.args.rows.now).maps _ _ _ _ (c.in_ok-at.ensures.ok ∙ c.deref.ensures.value ∙ c.in_ok-heading.ensures) c.in_ok-at-2.ensures.ok c.in_ok-at-3.ensures.ok c.in_ok-at-4.ensures.ok) (goes_on c.args.text.now c.in_ok-at-4.at more)

pub returns-clause-ok : goal.returns-clause-ok
returns-clause-ok g c =
    sym (with_end (g.R.Rows.held c.args.rows.now).maps _ _ _ _ (c.in_ok-at.ensures.ok ∙ c.deref.ensures.value ∙ c.in_ok-heading.ensures) c.in_ok-at-2.ensures.ok c.in_ok-at-3.ensures.ok c.in_ok-at-4.ensures.ok)
    ∙ take_all c.in_ok-at-4.at c.args.text.now (omega arith)
