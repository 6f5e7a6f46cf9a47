-- What follows of what opening answers, whatever it answers: the moment that files hold.
use Rattle.moo_files.{proofs.Words.{inl, inr, refl, IfOk, IfErr, Ghosts, Image, HasCleanDisk, over_files, Trees, store_of, Moment, AreTreesOf, IsSparedMoment, LeavesState, StoreFault, HoldsMoment, IsKept, IsCleanRemains, KeepsSuch, Remains}, specs.Causes.{HasCauseOr, StopsOver}, specs.Opened.{Attempt, Contents, Database, Hold, Opens, Refuses, OpensHeld, RefusesHeld}, proofs.RemainsLemmas.{keeps_more}, proofs.PresentLemmas.{spared_kept}}
use Rattle.std.proofs.lemmas.Result.{IfOk-weaker, IfErr-weaker}
use Rattle.moo_world.specs.Judge.{state_of}
use Rattle.moo_files.specs.declared.remains.Remains.TheVariants as remains

-- the state of a moment is one that its trees show
pub leaves_state : (m : Moment) (trees : Trees) → AreTreesOf m trees → LeavesState trees (state_of m.rows)
leaves_state m trees it = record { rows = m.rows; good = it.0; state = refl; leaves = record { tables = it.1.0.tables; leaves = it.1.2; shows = it.1.3 } }

module _ {T D : Type 0} {g : Ghosts D} (image : Image) (r : Attempt T D g) where
  abbrev OpensBy : Type 0
  OpensBy = (held : Contents) → Hold image held → IfOk r (λ world. HasCleanDisk (store_of over_files world) → Opens held world)

  abbrev RefusesBy : Type 0
  RefusesBy = (held : Contents) → Hold image held → IfErr r (λ e. IsCleanRemains e.1 → Refuses held image e.0 e.1)

  pub opens_held : OpensBy → OpensHeld image r
  opens_held it m holds = IfOk-weaker r _ _ (λ world opens clean. (opens clean).present m holds.such) (it (Database holds.trees) holds.holds)

  pub refuses_held : RefusesBy → RefusesHeld image r
  refuses_held it m holds = IfErr-weaker r _ _ (λ e refuses clean. (refuses clean).state (state_of m.rows) (leaves_state m holds.trees holds.such)) (it (Database holds.trees) holds.holds)

  pub still_holds : RefusesBy → (m : Moment) → HoldsMoment image m → IfErr r (λ e. IsCleanRemains e.1 → KeepsSuch (λ trees. (end : Moment) × IsSparedMoment m end × AreTreesOf end trees) image e.1)
  still_holds it m holds = IfErr-weaker r _ _
      (λ e refuses clean. keeps_more (IsKept holds.trees) (λ trees. (end : Moment) × IsSparedMoment m end × AreTreesOf end trees) (λ found kept. spared_kept m holds.trees found holds.such kept) image e.1 (refuses clean).kept)
      (it (Database holds.trees) holds.holds)

-- more is known of tables that are migrated
pub over_more : {T D : Type 0} {g : Ghosts D} (Migrated Earlier Denied : Type 0) (fault : StoreFault) (r : Remains T D g) → (Migrated → Earlier) → HasCauseOr (StopsOver Migrated fault) Denied fault r
    → HasCauseOr (StopsOver Earlier fault) Denied fault r
over_more Migrated Earlier Denied fault (remains.Connection conn) more (inl memory) = inl memory
over_more Migrated Earlier Denied fault (remains.Connection conn) more (inr (inl failed)) = inr (inl failed)
over_more Migrated Earlier Denied fault (remains.Connection conn) more (inr (inr it)) = inr (inr (more it.0, it.1))
over_more Migrated Earlier Denied fault r more it = it
