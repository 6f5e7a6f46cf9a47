use Rattle.moo_memory.proofs.Words.{contents, object_cmp, is_linked, is_own_candidate, object_exact, object_total, either-first}
use Rattle.moo_memory.proofs.either.next_linked_of_either.Goals as goal

pub returns : goal.returns
returns g c =
    let candidate = is_own_candidate c.args.links.now (contents object_cmp c.args.changes.now) c.args.link in
    rw c.least.ensures (either-first object_total object_exact (is_linked (g.R.Rows.held c.args.base.now).maps c.args.link) candidate c.args.after c.next_linked.result c.next.result c.next_linked.ensures c.next.ensures)
