use Rattle.moo_tree.{proofs.Words.{ℕ, suc, ◌++◌, drop, object_cmp, contents, world_of}, proofs.Searching.{Search, AreAt, rank}}
use Rattle.moo_tree.proofs.under.owner_map_under.Given as goal

-- the search with this level pending, whose objects stand as deep
abbrev pub invariant-loop-alloc : goal.invariant-loop-alloc
invariant-loop-alloc g l =
    let t = (g.R.Rows.held l.rows).maps in
    record {
      search : Search t l.fn.x (contents object_cmp l.found) l.level.items;
      depth : (n : ℕ) × AreAt (world_of t) n l.level.items;
    }

-- how many levels may be left
abbrev pub decreases-loop-alloc : goal.decreases-loop-alloc
decreases-loop-alloc g l = rank (world_of (g.R.Rows.held l.rows).maps) l.level.items

-- the search with the rest of the level and what is below pending
abbrev pub invariant-loop-y : goal.invariant-loop-y
invariant-loop-y g l =
    let t = (g.R.Rows.held l.rows).maps in
    record {
      search : Search t l.fn.x (contents object_cmp l.found) (drop l.y-index l.y-items ++ l.below.items);
      depth : (n : ℕ) × AreAt (world_of t) n l.y-items × AreAt (world_of t) (suc n) l.below.items;
    }
