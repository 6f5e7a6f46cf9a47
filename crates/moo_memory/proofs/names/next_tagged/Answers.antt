use Rattle.moo_memory.proofs.Words.{◌≡◌, None, rules, sym, ◌∙◌, named-none, named-past, named-same}
use Rattle.moo_memory.proofs.names.next_tagged.Goals as goal
use Rattle.std.proofs.lemmas.Bool.{true≢false}

pub returns-in_err-of : goal.returns-in_err-of
returns-in_err-of c =
    let none : c.from_residual.result ≡ None = search rules in
    rw none (named-none _ c.args.tag c.args.after c.in_err-of.ensures)

pub returns-then-same_tag : goal.returns-then-same_tag
returns-then-same_tag c = named-same _ c.args.tag c.args.after c.in_ok-of.of c.in_ok-of.key (c.same_tag.ensures.0 c.if-same_tag.true) c.in_ok-of.ensures

pub returns-else-same_tag : goal.returns-else-same_tag
returns-else-same_tag c = named-past _ c.args.tag c.args.after c.in_ok-of.of c.in_ok-of.key (λ e. true≢false (sym (c.same_tag.ensures.1 e) ∙ c.if-same_tag.false)) c.in_ok-of.ensures
