use Rattle.moo_memory.{proofs.Words.{sym, subst, ◌∙◌, slot_total, slot_exact, contents, slot_cmp}, proofs.Keys.{forgets-one}, specs.Forgotten.{ForgetsKey}}
use Rattle.moo_memory.proofs.links.forget_defined.Goals as goal
use Rattle.std.proofs.lemmas.Bool.{true≢false}

pub returns : goal.returns
returns c =
    subst (λ was. ForgetsKey c.args.key was c.args.stays (contents slot_cmp c.args.pairs.now) (contents slot_cmp c.remove.new.rows)) (sym c.in-Some.is)
    (forgets-one (contents slot_cmp c.args.pairs.now) c.args.key c.args.stays slot_total slot_exact c.in-Some.was (contents slot_cmp c.remove.new.rows)
    (λ e. true≢false (sym (c.is_that.ensures.1 e) ∙ c.if-is_that.false)) c.remove.ensures)
