use Rattle.moo_memory.proofs.Words.{subst, PropId, IsFirst, has_key, named_cmp, name_hash, is_named_by, prop_cmp, prop_exact, prop_total, either-first}
use Rattle.moo_memory.proofs.either.next_named_of_either.Goals as goal

pub returns : goal.returns
returns g c =
    let has = has_key named_cmp c.args.names.now in
    let own = subst (λ h. IsFirst prop_cmp (λ q. has ((c.args.x, h), q)) c.args.after c.next_tagged.result) c.requires c.next_tagged.ensures in
    rw c.least.ensures (either-first prop_total prop_exact (is_named_by (g.R.Rows.held c.args.base.now).maps c.args.x c.args.name.now) (λ (q : PropId). has ((c.args.x, name_hash c.args.name.now), q)) c.args.after c.next_named.result c.next_tagged.result c.next_named.ensures own)
