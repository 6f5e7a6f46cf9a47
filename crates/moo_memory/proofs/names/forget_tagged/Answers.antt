use Rattle.moo_memory.{proofs.Words.{sym, subst, ◌∙◌, named_total, contents, named_cmp}, proofs.Keys.{forgets-one}, specs.Forgotten.{ForgetsKey}}
use Rattle.moo_rows.proofs.Naming.{named_exact}
use Rattle.moo_memory.proofs.names.forget_tagged.Goals as goal
use Rattle.std.proofs.lemmas.Bool.{true≢false}

pub returns : goal.returns
returns c =
    subst (λ was. ForgetsKey c.args.key was c.args.stays (contents named_cmp c.args.names.now) (contents named_cmp c.remove.new.rows)) (sym c.in-Some.is)
    (forgets-one (contents named_cmp c.args.names.now) c.args.key c.args.stays named_total named_exact c.in-Some.was (contents named_cmp c.remove.new.rows)
    (λ e. true≢false (sym (c.is_tag.ensures.1 e) ∙ c.if-is_tag.false)) c.remove.ensures)
