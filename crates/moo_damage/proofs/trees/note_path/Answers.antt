use Rattle.moo_damage.{proofs.Words.{ℕ, suc, ◌+◌, ◌<◌, ◌≡◌, drop, length, get_or, List, pos, sym, subst, arith, AllByRecursion, ObjNo, HasEnd, AreEnding}, proofs.Ending.{AreEnding-noted}}
use Rattle.moo_damage.proofs.trees.note_path.Goals as goal
use Rattle.std.proofs.Math.Seq.{drop-cons}

-- what holds of each of the rest holds of its first, and of the rest behind it
split : (P : ObjNo → Type 0) (l : List ObjNo) (i : ℕ) (d : ObjNo) → i < length l → AllByRecursion P (drop i l) → P (get_or l i d) × AllByRecursion P (drop (i + 1) l)
split P l i d h a =
    let parts = subst (AllByRecursion P) (drop-cons l i d h) a in
    let next : suc i ≡ i + 1 = omega arith in
    (parts.0, subst (λ k. AllByRecursion P (drop k l)) next parts.1)

pub loop-x-preserved : goal.loop-x-preserved
loop-x-preserved c link m all before =
    let now = c.loop-x.invariant link m all before in
    let parts = split (HasEnd link m) c.args.path.now c.loop-x.x-index (record { 0 = pos 0 }) c.loop-x-test.true now.1 in
    (subst (AreEnding link m) (sym c.in_ok-put.ensures.ok) (AreEnding-noted link m _ _ parts.0 now.0), parts.1)
