-- The state on which a call of a batch is made, after those before it.
use Rattle.std.proofs.Common.{◌≡◌, ℕ, ◌+◌, suc, List, ◌∷◌, sym, ap, subst, ◌∙◌, arith}
use Rattle.moo_value.{specs.declared.value.ObjNo.{ObjNo}, specs.declared.value.Value.{Value}}
use Rattle.moo_world.{specs.declared.call.Call.{Call}, specs.Outcomes.{Outcome, Done, Failed, Full}, specs.Requests.{State, batch_call}}
use Rattle.moo_batch.specs.Facts.{state_before_call}

-- what is before one of the calls that are left is before it among all
pub record HaveLed (before : State) (p : ObjNo) (all : List Call) (now : State) (left : List Call) (index : ℕ) : Type 0 where
  pub led : (place : ℕ) → state_before_call before p all (index + place) ≡ state_before_call now p left place

pub led-started : (p : ObjNo) (all : List Call) (now : State) → HaveLed now p all now all 0
led-started p all now = record { led = λ place. ap (state_before_call now p all) (omega arith) }

module _ {before : State} {p : ObjNo} {all : List Call} {now : State} {index : ℕ} {rest : List Call} where
  pub led-one : (call : Call) (left : List Call) (v : Value) (next : State) → rest ≡ call ∷ left → HaveLed before p all now rest index
      → batch_call now p call ≡ Done v next → HaveLed before p all next left (index + 1)
  led-one call left v next first h done = record {
    led = λ place.
        ap (state_before_call before p all) (omega arith)
        ∙ (subst (λ l. HaveLed before p all now l index) first h).led (suc place)
        ∙ ap (λ (o : Outcome State). elim o [ Done answer after ↦ state_before_call after p left place | Failed failure ↦ now | Full ↦ now ]) done;
  }

  pub led-here : HaveLed before p all now rest index → now ≡ state_before_call before p all index
  led-here h = sym (ap (state_before_call before p all) (omega arith) ∙ h.led 0)
