use Rattle.moo_damage.proofs.Words.{◌≡◌, ◌+◌, true, ◌⊎◌, List, length, is_some, AllEnd, get, ObjNo, nothing, Climbs, next_of, HasEnd}
use Rattle.moo_damage.proofs.trees.path_to_end.Given as goal

-- where the chain ends from here, it does from each object on the way; and it has as many fewer objects
abbrev pub invariant-loop : goal.invariant-loop
invariant-loop g l =
    let m = (g.R.Rows.held l.rows).maps in
    record {
      here : (l.at ≡ nothing) ⊎ (is_some (get m.objects l.at) ≡ true);
      up : HasEnd l.link m l.at → AllEnd l.link m l.path.items × HasEnd l.link m l.fn.x;
      down : (c : List ObjNo) → Climbs (next_of l.link m) l.fn.x c → (rest : List ObjNo) × Climbs (next_of l.link m) l.at rest × (length rest + l.counter ≡ length c);
    }
