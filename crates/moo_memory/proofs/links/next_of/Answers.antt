use Rattle.moo_memory.proofs.Words.{object_cmp, contents, next-first}
use Rattle.moo_memory.proofs.links.next_of.Goals as goal

pub returns : goal.returns
returns g c = next-first (contents object_cmp c.args.objects.now) c.args.after c.next.result c.next.ensures
