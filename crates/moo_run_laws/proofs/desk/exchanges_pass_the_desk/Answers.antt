use Rattle.std.{proofs.Common.{◌≡◌, [], drop, refl, arith}, proofs.Math.ListN.{drop_of_length-le}}
use Rattle.moo_run_laws.proofs.Desks.{passes_desk, asker_answered, causes_desk}
use Rattle.moo_run_laws.proofs.desk.exchanges_pass_the_desk.Goals as goal

pub returns-clause-sent : goal.returns-clause-sent
returns-clause-sent g c from to came slot opened closed back last it all exchanged =
    let none : drop last.writer.sent last.writer.text.items ≡ [] = drop_of_length-le last.writer.text.items (omega (arith, all)) in
    (c.exchanges_pass_through.ensures.sent from to _ _ (rw none at (passes_desk _ _ came slot opened closed back last it (λ x. refl) (λ x. refl))) exchanged, asker_answered came slot opened closed back last it)

pub returns-clause-lost : goal.returns-clause-lost
returns-clause-lost g c from to came slot opened closed back last it exchanged =
    (c.exchanges_pass_through.ensures.lost from to _ _ _ (passes_desk _ _ came slot opened closed back last it (λ x. refl) (λ x. refl)) exchanged, asker_answered came slot opened closed back last it)

pub returns-clause-failed : goal.returns-clause-failed
returns-clause-failed g c fault from to came slot opened closed back last it exchanged =
    (c.exchanges_pass_through.ensures.failed fault from to _ _ _ (passes_desk _ _ came slot opened closed back last it (λ x. refl) (λ x. refl)) exchanged, asker_answered came slot opened closed back last it)

pub returns-clause-cause : goal.returns-clause-cause
returns-clause-cause g c last failed = causes_desk g.R.Incoming.fails last failed
