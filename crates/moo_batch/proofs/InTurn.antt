-- The calls of a petition, one after another.
use Rattle.std.{proofs.Common.{◌≡◌, ℕ, ◌+◌, ℤ, Bool, true, false, OnOk, Some, None, List, [], ◌∷◌, Result, Ok, Err, refl, sym, ap, ◌∙◌, subst}, specs.List.{list_all}, proofs.lemmas.Bool.{and_parts, true≢false}}
use Rattle.moo_value.{specs.declared.value.ObjNo.{ObjNo}, specs.declared.value.Value.{Value}, specs.Value.{spread}}
use Rattle.moo_rows.{specs.declared.row.PetitionId.{PetitionId}, specs.declared.row.PetitionRow.{PetitionRow}, specs.Maps.{Maps, Held, without_petition}}
use Rattle.moo_world.{specs.declared.call.Call.{Call}, specs.Answers.{zero}, specs.Arguments.{fits}, specs.Between.{HeldCallsLead, GrantLeads, CallKeepsNumbers}, specs.Keeps.{Keeps, beside_world}, specs.Names.{grants, is_grant, petition_call}, specs.Numbers.{KeepsNumbers}, specs.Outcomes.{Outcome, Done, Failed, Full, fails, in_petition}, specs.Requests.{State, in_world, held_step, held_steps, one_integer, petition_at, batch_call}, specs.Rows.{IsGood}, specs.World.{World}, specs.Calls.{world_call}, proofs.Batches.Requested.{request_steps}}
use Rattle.moo_calls_shared.{specs.declared.fault.Fault.{Fault}, specs.declared.fault.Fault.TheVariants.{Moo, Held as of_held, Full as none_left, OutOfMemory}, specs.Outcomes.{world_in, ComesTo}}
use Rattle.moo_batch.specs.Outcomes.{state_in, ComesInTurn, KeepInTurn, KeepsGoodRows, Reaches, held_at}

-- all calls come to what those come to that are left, the first of which has this place
pub record HaveStepped (before : Held) (p : ObjNo) (all : List Value) (place : ℕ) (now : Held) (left : List Value) : Type 0 where
  pub steps : held_steps 0 (world_in before) p all ≡ held_steps place (world_in now) p left
  pub good : IsGood now.maps
  pub beside : beside_world now.maps ≡ beside_world before.maps
  pub base : now.base ≡ before.base
  pub numbers : (last : Maps) → HeldCallsLead p left now.maps last → HeldCallsLead p all before.maps last
  pub fit : list_all fits left ≡ true

-- the state of rows that differ from others in their world alone
pub with_world : (mid new : Held) → beside_world new.maps ≡ beside_world mid.maps → record (state_in mid) { world = world_in new } ≡ state_in new
with_world mid new same = ap (λ b. record { world = world_in new; petitions = b.1.1; next_petition = b.1.0; seq = b.0 }) (sym same)

-- what the first of some calls makes of them
first_of : ℕ → ObjNo → List Value → Outcome World → Outcome World
first_of place p left o = elim o [ Done v next ↦ held_steps (place + 1) next p left | Failed failure ↦ Failed (in_petition place failure) | Full ↦ Full ]

first_is : (place : ℕ) (w : World) (p : ObjNo) (held : Value) (left : List Value) (o : Outcome World) → held_step w p held ≡ o → held_steps place w p (held ∷ left) ≡ first_of place p left o
unfolding first_of
first_is place w p held left o e = ap (first_of place p left) e

module _ {before : Held} {p : ObjNo} {all : List Value} {place : ℕ} {now : Held} {rest : List Value} where
  pub stepped-one : (held : Value) (left : List Value) (v : Value) (next : Held) → rest ≡ held ∷ left → HaveStepped before p all place now rest
      → held_step (world_in now) p held ≡ Done v (world_in next) → Keeps now next → HaveStepped before p all (place + 1) next left
  unfolding first_of
  stepped-one held left v next is was done kept = let h = subst (HaveStepped before p all place now) is was in record {
    steps = h.steps ∙ first_is place (world_in now) p held left (Done v (world_in next)) done;
    good = kept.good;
    beside = kept.beside ∙ h.beside;
    base = kept.base ∙ h.base;
    numbers = λ last lead. h.numbers last (v, next.maps, ap (in_world (state_in now)) done ∙ ap (Done v) (with_world now next kept.beside), kept.good, kept.numbers, lead);
    fit = (and_parts (fits held) (list_all fits left) h.fit).1;
  }

  pub stepped-fits : (held : Value) (left : List Value) → rest ≡ held ∷ left → HaveStepped before p all place now rest → fits held ≡ true
  stepped-fits held left is h = (and_parts (fits held) (list_all fits left) (subst (HaveStepped before p all place now) is h).fit).0

  pub stepped-all : rest ≡ [] → HaveStepped before p all place now rest → held_steps 0 (world_in before) p all ≡ Done zero (world_in now)
  stepped-all is h = (subst (HaveStepped before p all place now) is h).steps

  pub stepped-kept : rest ≡ [] → HaveStepped before p all place now rest → KeepInTurn p all before now
  stepped-kept is was = let h = subst (HaveStepped before p all place now) is was in record { good = h.good; beside = h.beside; base = h.base; numbers = h.numbers now.maps refl }

  -- the first that isn't done stops them
  pub stepped-stopped : (held : Value) (left : List Value) (fault : Fault) (new : Held) → rest ≡ held ∷ left → HaveStepped before p all place now rest
      → ComesTo (held_step (world_in now) p held) now new (Err fault) → ComesInTurn (held_steps 0 (world_in before) p all) new (Err (held_at place fault))
  unfolding first_of
  stepped-stopped held left (Moo reason) new is h comes = (subst (HaveStepped before p all place now) is h).steps ∙ first_is place (world_in now) p held left (fails reason) comes.0
  stepped-stopped held left (of_held other reason) new is h comes = absurd comes
  stepped-stopped held left none_left new is h comes = (subst (HaveStepped before p all place now) is h).steps ∙ first_is place (world_in now) p held left Full comes.0
  stepped-stopped held left OutOfMemory new is h comes = tt

-- ---- a petition that is granted

-- the calls were made behind the removal of the petition
pub granted-reaches : (s : State) (p : ObjNo) (helds : List Value) (mid new : Held) (o : Outcome World) (r : Result Value Fault)
    → state_in mid ≡ s → ComesInTurn o new r → OnOk r (KeepInTurn p helds mid new) → Reaches (in_world s o) new r
granted-reaches s p helds mid new o (Ok v) is comes kept =
    ap (in_world s) comes ∙ ap (λ (t : State). Done v (record t { world = world_in new })) (sym is) ∙ ap (Done v) (with_world mid new kept.beside)
granted-reaches s p helds mid new o (Err (Moo reason)) is comes kept = absurd comes
granted-reaches s p helds mid new o (Err OutOfMemory) is comes kept = tt
granted-reaches s p helds mid new o r is comes kept = ap (in_world s) comes

module _ (p : ObjNo) (args : List Value) (n : ℤ) (e : PetitionId × PetitionRow) (old mid new : Held) where
  pub granted-keeps : one_integer args ≡ Ok n → petition_at (state_in old) n ≡ Some e → mid ≡ without_petition old e.0 → KeepsGoodRows KeepsNumbers old mid
      → KeepInTurn p (spread e.1.calls) mid new → KeepsGoodRows (GrantLeads p args) old new
  granted-keeps given found gone removed kept = record {
    good = kept.good;
    seq = ap (λ b. b.0) kept.beside ∙ removed.seq;
    base = kept.base ∙ removed.base;
    numbers = (n, e, given, found, subst (λ (held : Held). HeldCallsLead p (spread e.1.calls) held.maps new.maps) gone kept.numbers);
  }

-- ---- a call on the world

-- what a call on the world comes to, beside the petitions
pub stepped-reaches : (call : Call) (p : ObjNo) (old new : Held) (r : Result Value Fault) → petition_call call.name ≡ None
    → ComesTo (world_call (world_in old) p call) old new r → OnOk r (Keeps old new) → Reaches (batch_call (state_in old) p call) new r
stepped-reaches call p old new (Ok v) on_world comes kept = request_steps (state_in old) p call on_world ∙ ap (in_world (state_in old)) comes ∙ ap (Done v) (with_world old new kept.beside)
stepped-reaches call p old new (Err (of_held place reason)) on_world comes kept = absurd comes
stepped-reaches call p old new (Err OutOfMemory) on_world comes kept = tt
stepped-reaches call p old new r on_world comes kept = request_steps (state_in old) p call on_world ∙ ap (in_world (state_in old)) comes.0

-- a call on the world grants nothing
world-keeps : (grants : Bool) (p : ObjNo) (args : List Value) (old new : Held) → grants ≡ false → Keeps old new → KeepsGoodRows (CallKeepsNumbers grants p args) old new
world-keeps true p args old new none kept = absurd (true≢false none)
world-keeps false p args old new none kept = record { good = kept.good; seq = ap (λ b. b.0) kept.beside; base = kept.base; numbers = kept.numbers }

pub stepped-keeps : (call : Call) (p : ObjNo) (old new : Held) → petition_call call.name ≡ None → Keeps old new
    → KeepsGoodRows (CallKeepsNumbers (is_grant call.name) p call.args) old new
stepped-keeps call p old new on_world kept =
    world-keeps (is_grant call.name) p call.args old new (ap (λ o. elim o [ None ↦ false | Some c ↦ grants c ]) on_world) kept
