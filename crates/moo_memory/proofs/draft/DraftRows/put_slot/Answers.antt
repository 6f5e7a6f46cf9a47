use Rattle.moo_memory.{proofs.Words.{Some, refl, slot_exact, slot_total}, proofs.Drafts.{seen-put, seen-refused}}
use Rattle.moo_memory.proofs.draft.DraftRows.put_slot.Goals as goal

pub returns-clause-ok : goal.returns-clause-ok
returns-clause-ok g c = seen-put slot_total slot_exact (λ t. t.slots) (λ m t. record t { slots = m }) c.self.view_is c.put.result _ _ _ _ refl c.args.key (Some c.args.row) c.put.ensures.ok

pub returns-clause-err : goal.returns-clause-err
returns-clause-err g c = seen-refused slot_total slot_exact (λ t. t.slots) (λ m t. record t { slots = m }) c.self.view_is c.put.result _ _ _ _ refl c.put.ensures.err
