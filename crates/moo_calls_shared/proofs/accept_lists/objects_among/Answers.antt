use Rattle.std.{proofs.Common.{◌≡◌, ◌<◌, ◌+◌, ◌++◌, ℕ, List, [], ◌∷◌, Option, None, Some, length, drop, get_or, refl, sym, ap, ◌∙◌, append_assoc, append-nil}, specs.Prelude.{◌≢◌}, specs.Option.{option_map}, proofs.lemmas.List.{drop_more, drop_all}}
use Rattle.moo_value.{specs.declared.value.ObjNo.{ObjNo}, specs.declared.value.Value.{Value}, specs.declared.value.Value.TheVariants.{Int, Obj, Str, Error, List as a_list}}
use Rattle.moo_world.specs.Arguments.{objects_among}
use Rattle.moo_calls_shared.proofs.accept_lists.objects_among.Goals as goal

joined : (found : List ObjNo) (x : ObjNo) (o : Option (List ObjNo)) → option_map (λ rest. (found ++ x ∷ []) ++ rest) o ≡ option_map (λ rest. found ++ rest) (option_map (λ rest. x ∷ rest) o)
joined found x None = refl
joined found x (Some rest) = ap Some (append_assoc found (x ∷ []) rest)

no_objects : (v : Value) (rest : List Value) → ((x : ObjNo) → v ≢ Obj x) → objects_among (v ∷ rest) ≡ None
no_objects (Int n) rest other = refl
no_objects (Obj x) rest other = absurd (other x refl)
no_objects (Str s) rest other = refl
no_objects (Error e) rest other = refl
no_objects (a_list l) rest other = refl

module _ (values : List Value) (i : ℕ) (v : Value) (found : List ObjNo) (less : i < length values) (is : v ≡ get_or values i v)
    (so_far : option_map (λ rest. found ++ rest) (objects_among (drop i values)) ≡ objects_among values) where
  next : drop i values ≡ v ∷ drop (i + 1) values
  next = drop_more values i v less ∙ ap (λ (w : Value). w ∷ drop (i + 1) values) (sym is)

  one_more : (x : ObjNo) → v ≡ Obj x → option_map (λ rest. (found ++ x ∷ []) ++ rest) (objects_among (drop (i + 1) values)) ≡ objects_among values
  one_more x object =
      joined found x (objects_among (drop (i + 1) values))
      ∙ ap (λ (vs : List Value). option_map (λ rest. found ++ rest) (objects_among vs)) (sym (next ∙ ap (λ (w : Value). w ∷ drop (i + 1) values) object))
      ∙ so_far

  another : ((x : ObjNo) → v ≢ Obj x) → None ≡ objects_among values
  another other = ap (option_map (λ rest. found ++ rest)) (sym (ap objects_among next ∙ no_objects v (drop (i + 1) values) other)) ∙ so_far

pub returns-in_default : goal.returns-in_default
returns-in_default c =
    another c.args.values.now c.loop-value.value-index c.value-item.result c.loop-value.found.items c.loop-value-test.true c.value-item.is c.loop-value.invariant c.in_default.not-Obj

pub loop-value-preserved : goal.loop-value-preserved
loop-value-preserved c =
    ap (λ (found : List ObjNo). option_map (λ rest. found ++ rest) (objects_among (drop (c.loop-value.value-index + 1) c.args.values.now))) c.in_ok-push-in-Obj.ensures.items
    ∙ one_more c.args.values.now c.loop-value.value-index c.value-item.result c.loop-value.found.items c.loop-value-test.true c.value-item.is c.loop-value.invariant c.in-Obj.x c.in-Obj.is

pub returns : goal.returns
returns c =
    let values = c.args.values.now in
    let found = c.loop-value.found.items in
    ap Some (c.from_vec.ensures ∙ sym (append-nil found))
    ∙ ap (λ (vs : List Value). option_map (λ rest. found ++ rest) (objects_among vs)) (sym (drop_all c.loop-value.value-index values c.loop-value-test.false))
    ∙ c.loop-value.invariant
