use Rattle.std.proofs.Common.{subst}
use Rattle.moo_desk.specs.{Rounds.{IsEndable}, Each.{IsFirstPlace}}
use Rattle.moo_desk.proofs.held.Held.first_endable.Goals as goal

pub returns : goal.returns
returns g c = subst (λ l. IsFirstPlace (IsEndable c.args.now) l c.first_place.result) c.deref.ensures.value c.first_place.ensures.first
