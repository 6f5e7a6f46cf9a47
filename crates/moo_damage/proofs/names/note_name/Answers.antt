use Rattle.moo_damage.{proofs.Words.{rules, ◌≡◌, Some, cond, sym, ap, ◌∙◌, lookup, same_text, folded, noted_as, is_alone}, proofs.Noting.{lowered, seen_after, seen_at}}
use Rattle.moo_damage.proofs.names.note_name.Goals as goal

pub returns-in-None-clause-noted : goal.returns-in-None-clause-noted
returns-in-None-clause-noted c n =
    let keyed : c.in_ok-key.key.items ≡ folded c.args.name.now = lowered c.args.name.now c.in_ok-key.key.items (search rules) in
    ap (λ es. lookup (λ k. same_text n k.items) es) c.in_ok-insert.ensures.entries
    ∙ seen_after c.args.noted.now.entries c.in_ok-key.key c.args.id n
    ∙ ap (λ t. cond (same_text n t) (Some c.args.id) (noted_as c.args.noted.now n)) keyed

pub returns-in-None-clause-alone : goal.returns-in-None-clause-alone
returns-in-None-clause-alone c =
    let keyed : c.in_ok-key.key.items ≡ folded c.args.name.now = lowered c.args.name.now c.in_ok-key.key.items (search rules) in
    ap (λ o. is_alone o c.args.id)
    (sym c.in-None.is ∙ c.in_ok-insert.ensures.old ∙ seen_at c.args.noted.now.entries c.in_ok-key.key ∙ ap (noted_as c.args.noted.now) keyed)

pub returns-in-Some-clause-noted : goal.returns-in-Some-clause-noted
returns-in-Some-clause-noted c n =
    let keyed : c.in_ok-key.key.items ≡ folded c.args.name.now = lowered c.args.name.now c.in_ok-key.key.items (search rules) in
    ap (λ es. lookup (λ k. same_text n k.items) es) c.in_ok-insert.ensures.entries
    ∙ seen_after c.args.noted.now.entries c.in_ok-key.key c.args.id n
    ∙ ap (λ t. cond (same_text n t) (Some c.args.id) (noted_as c.args.noted.now n)) keyed

pub returns-in-Some-clause-alone : goal.returns-in-Some-clause-alone
returns-in-Some-clause-alone c =
    let keyed : c.in_ok-key.key.items ≡ folded c.args.name.now = lowered c.args.name.now c.in_ok-key.key.items (search rules) in
    ap (λ o. is_alone o c.args.id)
    (sym c.in-Some.is ∙ c.in_ok-insert.ensures.old ∙ seen_at c.args.noted.now.entries c.in_ok-key.key ∙ ap (noted_as c.args.noted.now) keyed)
