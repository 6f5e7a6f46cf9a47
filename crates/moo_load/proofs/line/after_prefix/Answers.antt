use Rattle.moo_load.proofs.Words.{◌≡◌, ℕ, List, ◌++◌, length, take, drop, refl, sym, ap, ◌∙◌, take-append-drop, take_at, false≢true}
use lib.Pointwise.{bytes_decides}
use Rattle.moo_load.proofs.line.after_prefix.Goals as goal

pub returns-in-Some-clause-ok : goal.returns-in-Some-clause-ok
returns-in-Some-clause-ok c =
    let prefix = c.args.prefix.now in
    let bytes = c.args.bytes.now in
    let front : take (length prefix) bytes ≡ prefix = (bytes_decides (take (length prefix) bytes) prefix).0 c.in-Some.ensures.cases.0 in
    sym (take-append-drop (length prefix) bytes) ∙ ap (λ (t : List ℕ). t ++ drop (length prefix) bytes) front ∙ ap (λ (t : List ℕ). prefix ++ t) (sym c.in-Some.ensures.cases.1)

pub returns-in-None-clause-err : goal.returns-in-None-clause-err
returns-in-None-clause-err c rest is =
    let prefix = c.args.prefix.now in
    let bytes = c.args.bytes.now in
    let front : take (length prefix) bytes ≡ prefix = ap (take (length prefix)) is ∙ take_at prefix rest (length prefix) refl in
    false≢true (sym c.in-None.ensures.cases ∙ (bytes_decides (take (length prefix) bytes) prefix).1 front)
