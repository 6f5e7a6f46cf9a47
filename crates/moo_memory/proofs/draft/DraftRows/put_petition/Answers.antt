use Rattle.moo_memory.{proofs.Words.{Some, refl, petition_exact, petition_total}, proofs.Drafts.{seen-put, seen-refused}}
use Rattle.moo_memory.proofs.draft.DraftRows.put_petition.Goals as goal

pub returns-clause-ok : goal.returns-clause-ok
returns-clause-ok g c = seen-put petition_total petition_exact (λ t. t.petitions) (λ m t. record t { petitions = m }) c.self.view_is c.put.result _ _ _ _ refl c.args.key (Some c.args.row) c.put.ensures.ok

pub returns-clause-err : goal.returns-clause-err
returns-clause-err g c = seen-refused petition_total petition_exact (λ t. t.petitions) (λ m t. record t { petitions = m }) c.self.view_is c.put.result _ _ _ _ refl c.put.ensures.err
