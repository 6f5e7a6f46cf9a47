use Rattle.moo_memory.proofs.Words.{◌≡◌, None, rules, prop_cmp, pair-none}
use Rattle.moo_memory.proofs.links.next_defined.Goals as goal

pub returns-in_err-of : goal.returns-in_err-of
returns-in_err-of c =
    let none : c.from_residual.result ≡ None = search rules in
    rw none (pair-none prop_cmp _ c.args.x c.args.after c.in_err-of.ensures)
