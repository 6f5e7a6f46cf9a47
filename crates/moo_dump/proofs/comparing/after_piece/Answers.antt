use Rattle.moo_dump.{proofs.Words.{◌≡◌, ◌≤◌, ◌<◌, ◌+◌, ◌-◌, ◌++◌, ℕ, List, length, take, drop, sym, ap, ◌∙◌, arith, slice_get, take_rest, length-drop, take_all}, proofs.Compared.{departs}}
use Rattle.moo_dump.proofs.comparing.after_piece.Goals as goal
use Rattle.std.proofs.Math.Seq.{take-add}

pub returns-then-count-piece-clause-err : goal.returns-then-count-piece-clause-err
returns-then-count-piece-clause-err c =
    let text = c.args.text.now in
    let at = c.args.at in
    let count = c.common_prefix_len-count.result in
    let tail : take (length text - at) (drop at text) ≡ drop at text = take_rest text at in
    let short : count < length c.args.piece.now = omega arith in
    let within : at + count ≤ length text = omega (arith, c.requires, c.common_prefix_len-count.ensures.first, ap length tail, length-drop at text) in
    departs text c.args.piece.now at count within short (sym (ap (take count) tail) ∙ c.common_prefix_len-count.ensures.shared)
    (λ same. c.common_prefix_len-count.ensures.longest short (same ∙ ap (λ (t : List ℕ). slice_get t count) (sym tail)))

pub returns-clause-ok : goal.returns-clause-ok
returns-clause-ok c =
    let text = c.args.text.now in
    let at = c.args.at in
    let count = c.common_prefix_len-count.result in
    let tail : take (length text - at) (drop at text) ≡ drop at text = take_rest text at in
    let all : take count c.args.piece.now ≡ c.args.piece.now = take_all count c.args.piece.now (omega arith) in
    take-add at count text
    ∙ ap (λ (t : List ℕ). take at text ++ t) (sym (ap (take count) tail) ∙ c.common_prefix_len-count.ensures.shared ∙ all)
