use Rattle.moo_run.proofs.Words.{map, inr, refl, sym, subst, ◌<◌}
use Rattle.moo_run.proofs.run.run_words.Goals as goal
use Rattle.std.proofs.lemmas.List.{length-map}

pub run_task-requires-clause-read : goal.run_task-requires-clause-read
run_task-requires-clause-read g c path reads = c.requires.read c.in-Ok.task path c.in-Ok.ensures.task reads

pub returns-in-Ok-clause-input : goal.returns-in-Ok-clause-input
returns-in-Ok-clause-input g c none = c.run_task.ensures.input (none c.in-Ok.task c.in-Ok.ensures.task)

pub returns-in-Err-clause-words : goal.returns-in-Err-clause-words
returns-in-Err-clause-words g c =
    inr (subst (λ n. 1 < n) (sym (length-map c.args.words.now (λ word. word.now))) (c.in-Err.ensures.more refl), c.report_usage.ensures.host, c.report_usage.ensures.usage (map (λ word. word.now) c.args.words.now) c.in-Err.ensures.refused)

pub returns-in-Err-clause-over : goal.returns-in-Err-clause-over
returns-in-Err-clause-over g c =
    inr (subst (λ n. 1 < n) (sym (length-map c.args.words.now (λ word. word.now))) (c.in-Err.ensures.more refl), c.report_usage.ensures.host, c.report_usage.ensures.usage (map (λ word. word.now) c.args.words.now) c.in-Err.ensures.refused, tt)

pub run_task-requires-clause-may : goal.run_task-requires-clause-may
run_task-requires-clause-may g c = c.requires.may c.in-Ok.task c.in-Ok.ensures.task
