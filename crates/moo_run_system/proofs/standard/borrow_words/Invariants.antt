use Rattle.moo_run.proofs.Words.{◌≡◌, map, take, string_bytes}
use Rattle.moo_run_system.proofs.standard.borrow_words.Given as goal

abbrev pub invariant-loop-word : goal.invariant-loop-word
invariant-loop-word l = map (λ word. word.now) l.found.items ≡ map string_bytes (take l.word-index l.words)
