use Rattle.moo_memory.{proofs.Words.{◌+◌, Maps}, proofs.Drafts.{seen-written}}
use Rattle.moo_memory.proofs.flat.FlatRows.put_petition.Goals as goal
use Rattle.std.specs.FinMap as map

-- (not by `search`, which takes the keys of properties for those of petitions)
pub returns-clause-ok : goal.returns-clause-ok
returns-clause-ok c = seen-written (λ (t : Maps). t.petitions) (λ m (t : Maps). record t { petitions = m }) (λ m. map.insert m c.args.key c.args.row) (λ n. n + 1) c.self.view_is c.in_ok-put.ensures.ok c.rise.ensures
