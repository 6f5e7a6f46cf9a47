-- No call gives the number of a petition again.
use Rattle.moo_world.proofs.Lemmas.{◌≡◌, arith, ObjNo, Value, Values, PetitionId, petition_exact, petition_total, Call, Done, State, PetitionsStay, without, asked, batch_call, World, Led, of_done, request_leaves, put_or_old, none_or_old}

pub petitions_same : (s : State) (w : World) → PetitionsStay s (record s { world = w })
petitions_same s w = record { same = λ id row less h. h; next = omega arith }

more_asked : (s : State) (p : ObjNo) (calls : Values) → PetitionsStay s (asked s p calls)
more_asked s p calls = grind (arith, put_or_old, petition_total)

one_gone : (s : State) (gone : PetitionId) (w : World) → PetitionsStay s (record (without gone s) { world = w })
one_gone s gone w = record { same = λ id row less h. grind (arith, none_or_old petition_total petition_exact s.petitions gone id); next = omega arith }

pub petitions_kept : (s next : State) (p : ObjNo) (call : Call) (v : Value) → batch_call s p call ≡ Done v next → PetitionsStay s next
petitions_kept s next p call v e = of_done (λ v. PetitionsStay s) (batch_call s p call) v next (request_leaves (PetitionsStay s) s p call led) e
  where
    led : Led (PetitionsStay s) s p call
    led = record {
      stepped = λ v w e. petitions_same s w;
      same = petitions_same s s.world;
      asked = λ calls given there named few shallow left. more_asked s p calls;
      granted = λ id row there v w e. one_gone s id w;
      declined = λ id. one_gone s id s.world;
    }

pub petitions_joined : (a b c : State) → PetitionsStay a b → PetitionsStay b c → PetitionsStay a c
petitions_joined a b c s t = grind arith
