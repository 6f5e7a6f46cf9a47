use Rattle.moo_store.{proofs.Words.{◌≡◌, false, sym, subst, IsGood, AreChanges, Rehearsal}, proofs.Verdicts.{when_ok}, proofs.rehearsing.Rehearsal.accept.Goals.{then-is_err, else-is_err}}
use Rattle.moo_store.proofs.rehearsing.Rehearsal.accept.Goals as goal

pub invariant_of-self-else-is_err : goal.invariant_of-self-else-is_err
invariant_of-self-else-is_err c =
    let next = c.requires.changes.0 in
    let here : AreChanges c.self.inside.rows.maps next c.args.changes = subst (λ (r : Rehearsal). AreChanges r.rows.maps next c.args.changes) (sym c.self.view_is) c.requires.changes.1 in
    λ e. subst IsGood (sym (when_ok c.apply_changes.result c.if-is_err.ensures.value c.apply_changes.ensures next here)) c.requires.changes.2

pub returns-clause-rows : goal.returns-clause-rows
returns-clause-rows c next exact =
    let here : AreChanges c.self.inside.rows.maps next c.args.changes = subst (λ (r : Rehearsal). AreChanges r.rows.maps next c.args.changes) (sym c.self.view_is) exact in
    elim c.if-is_err.branch [
      | then-is_err w ↦ subst (λ (v : Rehearsal). v.failed ≡ false → v.rows.maps ≡ next) (sym w.self-is) (λ e. cc)
      | else-is_err w ↦ subst (λ (v : Rehearsal). v.failed ≡ false → v.rows.maps ≡ next) (sym w.self-is) (λ e. when_ok c.apply_changes.result w.if-is_err.ensures.value c.apply_changes.ensures next here)
    ]
