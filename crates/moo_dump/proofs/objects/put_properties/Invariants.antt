use Rattle.moo_dump.proofs.Words.{◌≡◌, ◌++◌, take, flat_map, property_line_of}
use Rattle.moo_dump.proofs.objects.put_properties.Given as goal

abbrev pub invariant-loop-id : goal.invariant-loop-id
invariant-loop-id g l = l.out.items ≡ l.fn.out.items ++ flat_map (property_line_of (g.R.Rows.held l.rows).maps l.x) (take l.id-index l.ids)
