use Rattle.moo_damage.proofs.Words.{drop, Maps, object_cmp, contents, TreeLink, AllEnd, AreEnding}
use Rattle.moo_damage.proofs.trees.note_path.Given as goal

abbrev pub invariant-loop-x : goal.invariant-loop-x
invariant-loop-x l =
    (link : TreeLink) (m : Maps) → AllEnd link m l.path → AreEnding link m (contents object_cmp l.fn.known) →
    AreEnding link m (contents object_cmp l.known) × AllEnd link m (drop l.x-index l.path)
