use Rattle.moo_damage.{proofs.Words.{None, Some, entries, PropId, objects_left, Misses}, proofs.Firsts.{FirstLeft}}
use Rattle.moo_damage.proofs.checks.first_missing.Given as goal

-- the first of those that are left is the first of all, whatever it misses
abbrev pub invariant-loop-key : goal.invariant-loop-key
invariant-loop-key g l =
    let m = (g.R.Rows.held l.rows).maps in
    (id : PropId) → FirstLeft (λ x _. Misses m x None) (λ x _. Misses m x (Some id)) (objects_left l.key-iterator.last (g.R.Rows.held l.key-iterator.rows.now).maps) (entries m.objects)
