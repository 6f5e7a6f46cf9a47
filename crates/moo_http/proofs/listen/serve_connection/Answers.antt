use Rattle.moo_http.{proofs.Words.{Read, inr, refl, rules}, proofs.Going.{moves_as, moves_none}, proofs.Turns.{visited}}
use Rattle.std.proofs.lemmas.Result.{IfErr-weaker}
use Rattle.moo_http.proofs.listen.serve_connection.Goals as goal

pub returns-clause-visited : goal.returns-clause-visited
returns-clause-visited g c =
    let one = c.serve_one-served in
    moves_as one.ensures.served (λ from to it. visited _ _ one.result c.ends.result from to _ c.ends.ensures.answered (IfErr-weaker one.result _ _ (λ fault why is. (why is).1) one.ensures.unread) it)

-- a connection that isn't read leaves the World where it was
pub returns-then-not-is_limited-clause-visited : goal.returns-then-not-is_limited-clause-visited
returns-then-not-is_limited-clause-visited g c = moves_none (λ from at. (Read, (λ e. inr (search rules)), (refl, refl)))
