use Rattle.moo_load.{proofs.Words.{rules, ◌≡◌, ◌-◌, ◌∷◌, ℕ, Some, None, length, take, drop, refl, sym, ap, ◌∙◌, ◌==◌, position_from, take_at, take_rest, none-some, same_Some}, proofs.Ends.{first_end}}
use Rattle.moo_load.proofs.place.line_from.Goals as goal

pub returns-in_err-end-clause-found : goal.returns-in_err-end-clause-found
returns-in_err-end-clause-found c line rest one e =
    let text = c.args.text.now in
    let tail = take (length text - c.args.at) (drop c.args.at text) in
    let found : position_from (λ byte. byte == 10) 0 tail ≡ Some (length line) = first_end tail line rest one (take_rest text c.args.at ∙ e) in
    let none : position_from (λ byte. byte == 10) 0 tail ≡ None = search rules in
    absurd (none-some (length line) (sym none ∙ found))

pub returns-clause-found : goal.returns-clause-found
returns-clause-found c line rest one e =
    let text = c.args.text.now in
    let tail = take (length text - c.args.at) (drop c.args.at text) in
    let own = take_rest text c.args.at in
    let found : position_from (λ byte. byte == 10) 0 tail ≡ Some (length line) = first_end tail line rest one (own ∙ e) in
    let given : Some c.in_ok-end.end ≡ position_from (λ byte. byte == 10) 0 tail = search rules in
    let count : c.in_ok-end.end ≡ length line = same_Some c.in_ok-end.end (length line) (given ∙ found) in
    ap (λ (n : ℕ). take n tail) count ∙ ap (take (length line)) (own ∙ e) ∙ take_at line (10 ∷ rest) (length line) refl
