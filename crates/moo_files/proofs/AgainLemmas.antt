-- From what a crash left to what the next open finds.
use Rattle.moo_files.proofs.Words.{IsSome, Image, Trees, IsGood, Moment, Place, MayBeLeft, CrashLeavesAt, moment_of, HoldsTrees, HoldsMoment}
use Rattle.sqlite.specs.State.{State as Database}

-- files that hold what a crash left of a store hold a moment that its place may leave
pub held_after : (store : Database) (place : Place) (image : Image) (trees : Trees) → ((m : Moment) → MayBeLeft place m → IsGood m.rows) → IsSome (moment_of place).cells → CrashLeavesAt store place → store.may_leave trees
    → HoldsTrees image trees → (m : Moment) × MayBeLeft place m × HoldsMoment image m
held_after store place image trees good known leaves lies holds =
    let it = leaves known trees lies in
    (it.0, it.1, record { trees = trees; holds = holds; such = (good it.0 it.1, it.2) })
