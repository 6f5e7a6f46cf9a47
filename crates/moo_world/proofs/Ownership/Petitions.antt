-- The calls of petitions change no world, unless a wizard grants.
use Rattle.moo_world.{proofs.Lemmas.{arith, ◌≡◌, true, false, Option, Some, None, sym, ◌∙◌, is_some, false≢true, ObjNo, Call, PetitionCall, petition_call, PetitionsLeaveTheWorld, State, in_world, petition_call_by, batch_call, is_wizard, named_call, is_object, Value, Leaves, of_done, on_check, Outcome}, proofs.Form.Passing.{each_check}, specs.declared.name.PetitionCall.TheVariants.{Petition as to_petition, Petitions as to_list, Grant as to_grant, Decline as to_decline}}

module _ (s : State) (p : ObjNo) (call : Call) (none : is_wizard s.world p ≡ false) where
  abbrev Same : State → Type 0
  Same next = next.world ≡ s.world

  not_granted : (o : Outcome State) → is_wizard s.world p ≡ true → Leaves Same o
  not_granted o wizard = absurd (false≢true (sym none ∙ wizard))

  one : (c : PetitionCall) → Leaves Same (petition_call_by s p c call.args)
  one to_petition = search each_check depth 12
  one to_list = search each_check
  one to_grant = search (each_check, not_granted)
  one to_decline = search each_check

  leaves : is_some (petition_call call.name) ≡ true → Leaves Same (batch_call s p call)
  unfolding batch_call
  leaves of_petitions = on_check _ (is_object s.world p) _ _ (λ po. by (petition_call call.name) of_petitions)
    where
      by : (c : Option PetitionCall) → is_some c ≡ true → Leaves Same (elim c [ None ↦ in_world s (named_call s.world p call.name call.args) | Some c ↦ petition_call_by s p c call.args ])
      by c is = grind (arith, one)

pub petitions_leave_the_world : PetitionsLeaveTheWorld
petitions_leave_the_world s next p call v none of_petitions e = of_done (λ (v : Value) (n : State). n.world ≡ s.world) (batch_call s p call) v next (leaves s p call none of_petitions) e
