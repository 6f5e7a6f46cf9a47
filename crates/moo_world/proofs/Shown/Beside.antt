-- Petitions stand where what stands beside the world is as it was.
use Rattle.moo_world.{proofs.Words.{◌≡◌, sym, subst, Maps, PetitionsStand, IsGood}, specs.Keeps.{beside_world}}

pub petitions_stay : (old new : Maps) → beside_world new ≡ beside_world old → IsGood old → PetitionsStand new.petitions new.head.next_petition
petitions_stay old new e good = subst (λ b. PetitionsStand b.1.1 b.1.0) (sym e) good.petitions
