-- What a `?` answers.
use Rattle.std.{proofs.Common.{Result}, specs.Result.{IfErr, IsErrAnd}, proofs.lemmas.Result.{err_from_is_err_and}}

-- what holds of each error that it may be holds of the one that it is
pub from_err : {T E : Type 0} {Q P : E → Type 0} (r : Result T E) → IsErrAnd r Q → ((e : E) → Q e → P e) → IfErr r P
from_err r is each = let p = err_from_is_err_and r is in rw p.1 (each p.0 p.2)
