use Rattle.moo_load.proofs.Words.{◌≡◌, ◌+◌, ◌∙◌, sym, ap, take, drop, arith, take-append-drop, line_ends, take_all}
use Rattle.moo_load.proofs.place.line_at.Goals as goal

pub returns : goal.returns
returns c =
    let front = take c.args.at c.args.text.now in
    let all : take c.loop-byte.byte-index front ≡ front = take_all c.loop-byte.byte-index front (omega arith) in
    (front, drop c.args.at c.args.text.now, sym (take-append-drop c.args.at c.args.text.now), c.loop-byte.invariant ∙ ap (λ l. line_ends l + 1) all)
