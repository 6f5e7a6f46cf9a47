use Rattle.moo_props.proofs.Words.{◌≡◌, true, length, list_any, ObjNo, is_among, chain, defines_name, world_of}
use Rattle.moo_props.proofs.finding.find_property_named.Given as goal

-- one from here on defines the name just where one of all does, and who is from here on is one of all
abbrev pub invariant-climb : goal.invariant-climb
invariant-climb g l =
    let w = world_of (g.R.Rows.held l.rows).maps in
    record {
      any : list_any (λ y. defines_name w y l.name) (chain w l.at) ≡ list_any (λ y. defines_name w y l.fn.name) (chain w l.fn.x);
      above : (d : ObjNo) → is_among d (chain w l.at) ≡ true → is_among d (chain w l.fn.x) ≡ true;
    }

abbrev pub decreases-climb : goal.decreases-climb
decreases-climb g l = length (chain (world_of (g.R.Rows.held l.rows).maps) l.at)
