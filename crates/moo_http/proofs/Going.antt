-- How moves of a World join, and whether it is still the very World.
use Rattle.moo_http.proofs.Words.{◌≡◌, ◌⊎◌, ◌∙◌, inl, inr, refl, sym, subst, arith, IsTrue, Ghosts, World, Stands, Place, HasAdvanced, IsStillOrAdvanced, AdvancesBy}

-- where it was it is
pub moves_none : {S : Type 0} {g : Ghosts S} {world : World S} {Way : Place → Place → Type 0} → ((from : Place) → Stands g world from → Way from from) → AdvancesBy g world world Way
moves_none holds = record {
  moves = record { clean = λ clean. clean; closed = λ failed. refl; goes = λ from at. (from, at, holds from at) };
  still = λ place at. inl refl;
}

-- the same move, of which something else holds
pub moves_as : {S : Type 0} {g : Ghosts S} {old new : World S} {First Way : Place → Place → Type 0} → AdvancesBy g old new First → ((from to : Place) → First from to → Way from to) → AdvancesBy g old new Way
moves_as first then = record {
  moves = record {
    clean = first.moves.clean;
    closed = first.moves.closed;
    goes = λ from at. (let it = first.moves.goes from at in (it.0, it.1, then from it.0 it.2));
  };
  still = first.still;
}

advanced_then : {S : Type 0} (old mid new : World S) → HasAdvanced old mid → HasAdvanced mid new → HasAdvanced old new
advanced_then old mid new (works, inl failed) (other, by) = absurd cc
advanced_then old mid new (works, inr more) (other, inl failed) = (works, inl failed)
advanced_then old mid new (works, inr more) (other, inr again) = (works, inr (omega (arith, more, again)))

still_then : {S : Type 0} {g : Ghosts S} {old mid new : World S} {First Second : Place → Place → Type 0} → AdvancesBy g old mid First → AdvancesBy g mid new Second → IsStillOrAdvanced g old new
still_then {S} {g} {old} {mid} {new} first second place at = elim (first.still place at) [
  | inl same ↦ subst (λ (w : World _). (new ≡ w) ⊎ HasAdvanced w new) same (second.still place (subst (λ (w : World _). Stands g w place) (sym same) at))
  | inr advanced ↦ (
      let between = first.moves.goes place at in
      elim (second.still between.0 between.1) [
        | inl same ↦ inr (subst (λ (w : World _). HasAdvanced old w) (sym same) advanced)
        | inr further ↦ inr (advanced_then old mid new advanced further)
      ])
]

-- two moves are one
pub moves_then : {S : Type 0} {g : Ghosts S} {old mid new : World S} {First Second Way : Place → Place → Type 0} → AdvancesBy g old mid First → AdvancesBy g mid new Second
    → ((from between to : Place) → First from between → Second between to → Way from to) → AdvancesBy g old new Way
moves_then first second both = record {
  moves = record {
    clean = λ clean. first.moves.clean (second.moves.clean clean);
    closed = λ failed. (let same = first.moves.closed failed in second.moves.closed (subst (λ (w : World _). IsTrue w.failed) (sym same) failed) ∙ same);
    goes = λ from at. (let one = first.moves.goes from at in let other = second.moves.goes one.0 one.1 in (other.0, other.1, both from one.0 other.0 one.2 other.2));
  };
  still = still_then first second;
}
