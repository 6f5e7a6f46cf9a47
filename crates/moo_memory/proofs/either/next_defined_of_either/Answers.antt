use Rattle.moo_memory.proofs.Words.{PropId, slot_cmp, has_key, is_definer, prop_exact, prop_total, either-first}
use Rattle.moo_memory.proofs.either.next_defined_of_either.Goals as goal

pub returns : goal.returns
returns g c = rw c.least.ensures (either-first prop_total prop_exact (is_definer (g.R.Rows.held c.args.base.now).maps c.args.x) (λ (q : PropId). has_key slot_cmp c.args.definers.now (c.args.x, q)) c.args.after c.next_defined.result c.next_defined-2.result c.next_defined.ensures c.next_defined-2.ensures)
