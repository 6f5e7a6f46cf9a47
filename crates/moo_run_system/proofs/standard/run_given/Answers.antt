use Rattle.moo_run.proofs.Words.{◌≡◌, Ghosts, Image, Run, List, ℕ, Bor, map, string_bytes, inr, IfOk, ap, subst, ◌∙◌, Task, ReadsFile, KeepsInput, RunsClosed}
use Rattle.moo_run_system.proofs.standard.run_given.Goals as goal
use Rattle.moo_files.specs.declared.remains.Remains.{Remains}
use Rattle.moo_cli.specs.Tasks.{NamesTask}

-- a run of the same words
closed_as : {T D : Type 0} {d : Ghosts D} (words others : List (List ℕ)) (image : Image) (closed : Remains T D d) (run : Run) → words ≡ others → RunsClosed words image closed run → RunsClosed others image closed run
closed_as words others image closed run same it = subst (λ words. RunsClosed words image closed run) same it

pub run_to_end-requires-clause-read : goal.run_to_end-requires-clause-read
run_to_end-requires-clause-read g c task path names reads =
    let same = ap (λ (words : List (Bor (List ℕ))). map (λ word. word.now) words) c.deref-2.ensures.value ∙ (c.in-Ok-borrow_words.ensures ∙ ap (map string_bytes) c.deref.ensures.value) in
    let may = subst (λ r. IfOk r (λ words. (task : Task) (path : List ℕ) → NamesTask (map string_bytes words.items) task → ReadsFile task path → g.S.Host.BatchFiles.may_read c.args.session.now.host path)) c.in-Ok.is c.requires.read in
    may task path (subst (λ words. NamesTask words task) same names) reads

pub returns-clause-read : goal.returns-clause-read
returns-clause-read g c =
    let same = ap (λ (words : List (Bor (List ℕ))). map (λ word. word.now) words) c.deref-2.ensures.value ∙ (c.in-Ok-borrow_words.ensures ∙ ap (map string_bytes) c.deref.ensures.value) in
    rw c.in-Ok.is (inr (closed_as _ _ _ _ _ same c.run_to_end.ensures.closed))

pub returns-clause-input : goal.returns-clause-input
returns-clause-input g c =
    let same = ap (λ (words : List (Bor (List ℕ))). map (λ word. word.now) words) c.deref-2.ensures.value ∙ (c.in-Ok-borrow_words.ensures ∙ ap (map string_bytes) c.deref.ensures.value) in
    rw c.in-Ok.is (subst (λ words. KeepsInput words c.args.session.now.input c.run_to_end.new.session.input) same c.run_to_end.ensures.input)

pub run_to_end-requires-clause-may : goal.run_to_end-requires-clause-may
run_to_end-requires-clause-may g c task names =
    let same = ap (λ (words : List (Bor (List ℕ))). map (λ word. word.now) words) c.deref-2.ensures.value ∙ (c.in-Ok-borrow_words.ensures ∙ ap (map string_bytes) c.deref.ensures.value) in
    let may = subst (λ r. IfOk r (λ words. (task : Task) → NamesTask (map string_bytes words.items) task → g.S.Host.WorldFiles.may_open c.args.session.now.host task.file.now)) c.in-Ok.is c.requires.may in
    may task (subst (λ words. NamesTask words task) same names)
