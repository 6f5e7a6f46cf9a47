use Rattle.moo_memory.{proofs.Words.{None, refl, verb_exact, verb_total}, proofs.Drafts.{seen-put, seen-refused}}
use Rattle.moo_memory.proofs.draft.DraftRows.remove_verb.Goals as goal

pub returns-clause-ok : goal.returns-clause-ok
returns-clause-ok g c = seen-put verb_total verb_exact (λ t. t.verbs) (λ m t. record t { verbs = m }) c.self.view_is c.put.result _ _ _ _ refl c.args.key None c.put.ensures.ok

pub returns-clause-err : goal.returns-clause-err
returns-clause-err g c = seen-refused verb_total verb_exact (λ t. t.verbs) (λ m t. record t { verbs = m }) c.self.view_is c.put.result _ _ _ _ refl c.put.ensures.err
