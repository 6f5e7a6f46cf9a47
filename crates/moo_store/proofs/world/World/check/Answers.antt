use Rattle.moo_store.{proofs.Words.{◌≡◌, true, refl, subst, World, MovesBy}, specs.Runs.{LeavesChecked}, proofs.CompareLemmas.{checked_moves, closed_check}}
use Rattle.moo_store.proofs.world.World.check.Goals as goal

pub returns-clause-moves : goal.returns-clause-moves
returns-clause-moves g c =
    let was : World _ = record { connection = c.self.inside.connection; rows = c.self.inside.rows; failed = c.self.inside.failed } in
    let now : World _ = record { connection = c.check_rows-checked.new.conn; rows = c.self.inside.rows; failed = c.has_failed-self-inside.result } in
    subst (λ w. MovesBy g.S.Store w now (λ from to. LeavesChecked from c.check_rows-checked.result to)) c.self.view_is
    (checked_moves g.S.Store was now c.if-self.false refl c.check_rows-checked.ensures.keeps c.check_rows-checked.result c.has_failed-self-inside.ensures c.check_rows-checked.ensures.checks c.check_rows-checked.ensures.worked)

-- a failed World looks at nothing

pub returns-then-self-clause-moves : goal.returns-then-self-clause-moves
returns-then-self-clause-moves g c = closed_check g.S.Store c.args.self.now (subst (λ (w : World _). w.failed ≡ true) c.self.view_is c.if-self.true)
