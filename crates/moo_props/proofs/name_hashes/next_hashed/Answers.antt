use Rattle.moo_props.{proofs.Words.{arith, ◌≡◌, None, rules}, proofs.HashedNames.{hashed-none}}
use Rattle.moo_props.proofs.name_hashes.next_hashed.Goals as goal

pub returns-in_err-of : goal.returns-in_err-of
returns-in_err-of c = grind (arith, hashed-none)
