-- A call by its name and what it is given.
use Rattle.std.{proofs.Common.{◌≡◌, List, ◌∷◌, Option, None, Some, refl, sym, ap, ◌∙◌}, specs.Prelude.{is_some, if◌then◌else◌}, specs.Option.{option_and_then, option_map}}
use Rattle.moo_value.{specs.declared.value.Value.{Value}, specs.declared.value.Value.TheVariants.{Str}}
use Rattle.moo_world.{specs.declared.call.Call.{Call}, specs.declared.name.CallName.{CallName}, specs.declared.name.PetitionCall.{PetitionCall}, specs.Names.{call_name_of, petition_call}, specs.Requests.{call_in}}

-- the name of a call on the world
abbrev pub on_world : Option CallName → Option CallName
on_world o = option_and_then (λ n. if is_some (petition_call n) then None else Some n) o

abbrev pub call_of : List Value → CallName → Call
call_of args n = record { name = n; args = args }

-- a call on the world, of this name
abbrev with_args : List Value → Option CallName → Option Call
with_args args o = option_and_then (λ n. if is_some (petition_call n) then None else Some (call_of args n)) o

named_so : (args : List Value) (o : Option CallName) → with_args args o ≡ option_map (call_of args) (on_world o)
named_so args None = refl
named_so args (Some n) = by (petition_call n)
  where
    by : (c : Option PetitionCall) → (if is_some c then None else Some (call_of args n)) ≡ option_map (call_of args) (if is_some c then None else Some n)
    by None = refl
    by (Some c) = refl

pub call_in-some : (values args : List Value) (text : List _) (n : CallName) → values ≡ Str text ∷ args → Some n ≡ on_world (call_name_of text) → call_in values ≡ Some (call_of args n)
call_in-some values args text n is found = ap call_in is ∙ named_so args (call_name_of text) ∙ ap (option_map (call_of args)) (sym found)

pub call_in-none : (values args : List Value) (text : List _) → values ≡ Str text ∷ args → None ≡ on_world (call_name_of text) → call_in values ≡ None
call_in-none values args text is found = ap call_in is ∙ named_so args (call_name_of text) ∙ ap (option_map (call_of args)) (sym found)
