use Rattle.test_props.proofs.properties.tree.opening.Goals as goal

pub returns : goal.returns
returns c = c.good_opening.ensures c.in_ok-rows.rows.maps c.in_ok-rows.ensures
