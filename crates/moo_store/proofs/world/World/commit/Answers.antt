use Rattle.moo_store.{proofs.Words.{◌≡◌, Bool, false, true, Some, refl, sym, subst, subst₂, IsGood, AreChanges, World, Prints, store_of, Ok, Err, Store}, specs.Committing.{CommitsTo, CommitsInto}, specs.Moves.{MovesBy, FailsRun}, proofs.Commits.{moves_on, moves_off, fails_by}, proofs.Verdicts.{when_ok}, proofs.world.World.commit.Goals.{then-is_err, else-is_err}}
use Rattle.moo_store.proofs.world.World.commit.Goals as goal
use Rattle.moo_rows.specs.Maps.{Held}
use Rattle.moo_text.specs.declared.reply.Reply.TheVariants.{Accepted}

-- the store failed

pub returns-in-Err-clause-moves : goal.returns-in-Err-clause-moves
returns-in-Err-clause-moves g c rows exact good =
    let was : World _ = record { connection = c.self.inside.connection; rows = c.self.inside.rows; failed = c.self.inside.failed } in
    let failed : World _ = record { connection = c.commit_cells.new.conn; rows = c.self.inside.rows; failed = true } in
    subst (λ w. MovesBy g.S.Store w failed (λ from to. CommitsTo c.args.answers c.args.changes rows from (Err (Store c.in-Err.error)) to)) c.self.view_is
    (moves_off g.S.Store was failed c.args.answers c.args.changes c.args.cells.now
    (subst (λ (w : World _). w.failed ≡ false) (sym c.self.view_is) c.requires.works)
    (subst (λ (w : World _). Prints (Some w.rows.maps.head.next_petition) w.rows.maps c.args.cells.now c.args.changes) (sym c.self.view_is) c.requires.printed)
    rows (subst (λ (w : World _). AreChanges w.rows.maps rows c.args.changes) (sym c.self.view_is) exact) c.in-Err.error good c.in-Err.ensures.commits refl)

pub returns-in-Err-clause-fault : goal.returns-in-Err-clause-fault
returns-in-Err-clause-fault g c =
    let was : World _ = record { connection = c.self.inside.connection; rows = c.self.inside.rows; failed = c.self.inside.failed } in
    let failed : World _ = record { connection = c.commit_cells.new.conn; rows = c.self.inside.rows; failed = true } in
    let rows = c.requires.changes.0 in
    subst (λ w. FailsRun g.S.Store w failed (Store c.in-Err.error)) c.self.view_is
    (fails_by g.S.Store was failed c.args.answers c.args.changes c.args.cells.now
    (subst (λ (w : World _). w.failed ≡ false) (sym c.self.view_is) c.requires.works)
    (subst (λ (w : World _). Prints (Some w.rows.maps.head.next_petition) w.rows.maps c.args.cells.now c.args.changes) (sym c.self.view_is) c.requires.printed)
    rows (subst (λ (w : World _). AreChanges w.rows.maps rows c.args.changes) (sym c.self.view_is) c.requires.changes.1) c.in-Err.error c.in-Err.ensures.commits)

-- the changes are in the tables, and in the rows unless memory ran out

pub returns-clause-moves : goal.returns-clause-moves
returns-clause-moves g c rows exact good =
    let was : World _ = record { connection = c.self.inside.connection; rows = c.self.inside.rows; failed = c.self.inside.failed } in
    let here = subst (λ (w : World _). AreChanges w.rows.maps rows c.args.changes) (sym c.self.view_is) exact in
    let made : (held : Held) (failed : Bool) → (failed ≡ false → held.maps ≡ rows) → MovesBy g.S.Store was (record { connection = c.commit_cells.new.conn; rows = held; failed = failed }) (λ from to. CommitsTo c.args.answers c.args.changes rows from (Ok (Accepted c.args.changes.head.seq c.args.answers)) to) = λ held failed applied.
    moves_on g.S.Store was (record { connection = c.commit_cells.new.conn; rows = held; failed = failed }) c.args.answers c.args.changes c.args.cells.now
    (subst (λ (w : World _). w.failed ≡ false) (sym c.self.view_is) c.requires.works)
    (subst (λ (w : World _). Prints (Some w.rows.maps.head.next_petition) w.rows.maps c.args.cells.now c.args.changes) (sym c.self.view_is) c.requires.printed)
    rows here tt good c.in_default.ensures.commits applied in
    elim c.if-is_err.branch [
      | then-is_err w ↦ subst₂ (λ u v. MovesBy g.S.Store u v (λ from to. CommitsTo c.args.answers c.args.changes rows from (Ok (Accepted c.args.changes.head.seq c.args.answers)) to)) c.self.view_is (sym w.self-is) (made _ true (λ e. cc))
      | else-is_err w ↦ subst₂ (λ u v. MovesBy g.S.Store u v (λ from to. CommitsTo c.args.answers c.args.changes rows from (Ok (Accepted c.args.changes.head.seq c.args.answers)) to)) c.self.view_is (sym w.self-is)
          (made c.apply_changes.new.rows c.self.inside.failed (λ e. when_ok c.apply_changes.result w.if-is_err.ensures.value c.apply_changes.ensures rows here))
    ]

pub returns-clause-commits : goal.returns-clause-commits
returns-clause-commits g c = elim c.if-is_err.branch [
  | then-is_err w ↦ subst₂ (λ u v. CommitsInto c.args.cells.now (store_of g.S.Store u) (store_of g.S.Store v) (Ok (Accepted c.args.changes.head.seq c.args.answers))) c.self.view_is (sym w.self-is) c.in_default.ensures.commits
  | else-is_err w ↦ subst₂ (λ u v. CommitsInto c.args.cells.now (store_of g.S.Store u) (store_of g.S.Store v) (Ok (Accepted c.args.changes.head.seq c.args.answers))) c.self.view_is (sym w.self-is) c.in_default.ensures.commits
]

pub invariant_of-self-else-is_err : goal.invariant_of-self-else-is_err
invariant_of-self-else-is_err g c =
    let next = c.requires.changes.0 in
    let here : AreChanges c.self.inside.rows.maps next c.args.changes = subst (λ (w : World _). AreChanges w.rows.maps next c.args.changes) (sym c.self.view_is) c.requires.changes.1 in
    (c.commit_cells.ensures.outside, λ e. subst IsGood (sym (when_ok c.apply_changes.result c.if-is_err.ensures.value c.apply_changes.ensures next here)) c.requires.changes.2)
