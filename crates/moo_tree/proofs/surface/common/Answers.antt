use Rattle.moo_tree.{proofs.Words.{◌≡◌, ◌-◌, true, ◌∷◌, drop, length, sym, ap, ◌∙◌, subst, arith, unwrap_or, is_some, ancestors, nothing, is_among, same_object-eq, same_object-Decides, look_ups, world_of, is_object, chain, chain_of_row, chain_of_no_row, is_object_seen}, proofs.Climbing.{one_shorter, is_here}, proofs.Sharing.{common_of_none, cut_alike, cut_within, tail_within, among_drop, find_here, find_later, found_no_deeper, apart}}
use Rattle.moo_tree.proofs.surface.common.Goals as goal

pub returns-in-None : goal.returns-in-None
returns-in-None g c = grind (arith, common_of_none, chain_of_no_row)

pub loop-row-init : goal.loop-row-init
loop-row-init g c =
    let m = look_ups (g.R.Rows.held c.args.rows.now).maps in
    let w = world_of (g.R.Rows.held c.args.rows.now).maps in
    let up = chain w c.in-Some.row.now.parent in
    let new = chain w c.args.new in
    let one = chain w c.climb_to_depth_of-one.result in
    let other = chain w c.climb_to_depth_of-other.result in
    let above : up ≡ ancestors w c.args.x = sym (ap (drop 1) (chain_of_row m c.requires c.args.x c.in-Some.row.now c.in-Some.ensures)) in
    record {
      deep = cut_alike up new one other c.climb_to_depth_of-one.ensures c.climb_to_depth_of-other.ensures;
      within = subst (λ l. drop (length l - length one) l ≡ one) above (cut_within up one (length new) c.climb_to_depth_of-one.ensures);
      found = found_no_deeper w c.requires c.args.x c.args.new c.climb_to_depth_of-other.result (subst (λ l. other ≡ drop (length new - length l) new) above c.climb_to_depth_of-other.ensures);
    }

pub returns-then-eq : goal.returns-then-eq
returns-then-eq g c =
    let m = look_ups (g.R.Rows.held c.args.rows.now).maps in
    let w = world_of (g.R.Rows.held c.args.rows.now).maps in
    let above = ancestors w c.args.x in
    let one = c.loop-row.one in
    let other = c.loop-row.other in
    let same : one ≡ other = (same_object-Decides one other).0 (sym (same_object-eq one other) ∙ sym c.if-eq.ensures) in
    let back = sym same in
    let here : is_among one (chain w other) ≡ true = is_here m c.requires other c.in-Some-object.row.now c.in-Some-object.ensures one c.if-eq.ensures in
    let swapped : is_among other (chain w one) ≡ is_among one (chain w other) = λ i. is_among (back i) (chain w (same i)) in
    let shared : is_among other above ≡ true = among_drop other (length above - length (chain w one)) above (ap (is_among other) c.loop-row.invariant.within ∙ swapped ∙ here) in
    let step : chain w other ≡ other ∷ chain w c.in-Some-object.row.now.parent = chain_of_row m c.requires other c.in-Some-object.row.now c.in-Some-object.ensures in
    ap (λ o. unwrap_or o nothing) (sym (find_here (λ d. is_among d above) other _ (chain w other) step shared) ∙ c.loop-row.invariant.found)

pub unreachable-requires : goal.unreachable-requires
unreachable-requires g c =
    let m = look_ups (g.R.Rows.held c.args.rows.now).maps in
    omega (arith, one_shorter m c.requires c.loop-row.other c.in-Some-object.row.now c.in-Some-object.ensures, ap length (chain_of_no_row m c.loop-row.one c.in-None-object.ensures), c.loop-row.invariant.deep)

pub loop-row-smaller : goal.loop-row-smaller
loop-row-smaller g c = omega (arith, one_shorter (look_ups (g.R.Rows.held c.args.rows.now).maps) c.requires c.loop-row.other c.in-Some-object.row.now c.in-Some-object.ensures)

pub loop-row-preserved : goal.loop-row-preserved
loop-row-preserved g c =
    let m = look_ups (g.R.Rows.held c.args.rows.now).maps in
    let w = world_of (g.R.Rows.held c.args.rows.now).maps in
    let above = ancestors w c.args.x in
    let one : chain w c.loop-row.one ≡ c.loop-row.one ∷ chain w c.in-Some-object-2.above.now.parent = chain_of_row m c.requires c.loop-row.one c.in-Some-object-2.above.now c.in-Some-object-2.ensures in
    let other : chain w c.loop-row.other ≡ c.loop-row.other ∷ chain w c.in-Some-object.row.now.parent = chain_of_row m c.requires c.loop-row.other c.in-Some-object.row.now c.in-Some-object.ensures in
    let there : is_object w c.loop-row.other ≡ true = is_object_seen m c.loop-row.other ∙ ap is_some (sym c.in-Some-object.ensures) in
    let deep : length (chain w c.in-Some-object-2.above.now.parent) ≡ length (chain w c.in-Some-object.row.now.parent) = omega (arith, ap length one, ap length other, c.loop-row.invariant.deep) in
    record {
      deep = deep;
      within = tail_within above (chain w c.loop-row.one) (chain w c.in-Some-object-2.above.now.parent) c.loop-row.one c.loop-row.invariant.within one;
      found =
          find_later (λ d. is_among d above) c.loop-row.other (chain w c.in-Some-object.row.now.parent) (chain w c.loop-row.other) other
          (apart w c.requires c.args.x c.loop-row.other (length above - length (chain w c.loop-row.one)) c.loop-row.one _ _ (c.loop-row.invariant.within ∙ one) there other deep c.if-eq.ensures)
          ∙ c.loop-row.invariant.found;
    }

pub returns : goal.returns
returns g c = grind (arith, chain_of_no_row)
