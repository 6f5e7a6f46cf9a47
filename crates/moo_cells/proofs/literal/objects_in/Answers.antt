use Rattle.std.{proofs.Common.{◌≡◌, ◌<◌, ◌∙◌, ◌++◌, [], ◌∷◌, List, length, map, take, sym, ap, arith}, proofs.lemmas.List.{take_all, take_more, length-map, map-append}}
use Rattle.moo_value.{specs.declared.value.ObjNo.{ObjNo}, specs.declared.value.Value.{Value}, specs.declared.value.Value.TheVariants.{Obj}}
use Rattle.moo_cells.proofs.Texts.{not_objects}
use Rattle.moo_cells.proofs.literal.objects_in.Goals as goal

pub returns-in_default : goal.returns-in_default
returns-in_default c = record {
  ok = tt;
  fits = tt;
  err = λ unreadable objects short same.
      let within : c.loop-value.value-index < length c.args.values.now = omega arith in
      not_objects c.args.values.now c.loop-value.value-index c.value-item.result within c.value-item.is (λ x e. c.in_default.not-Obj x e) objects same;
}

pub returns-clause-ok : goal.returns-clause-ok
returns-clause-ok c = sym (take_all c.loop-value.value-index c.args.values.now c.loop-value-test.false) ∙ c.loop-value.invariant ∙ ap (λ (xs : List ObjNo). map Obj xs) (sym c.from_vec.ensures)

pub returns-clause-fits : goal.returns-clause-fits
returns-clause-fits c =
    let same = sym (take_all c.loop-value.value-index c.args.values.now c.loop-value-test.false) ∙ c.loop-value.invariant ∙ ap (λ (xs : List ObjNo). map Obj xs) (sym c.from_vec.ensures) in
    let long : length c.args.values.now ≡ length c.from_vec.result = ap length same ∙ length-map c.from_vec.result Obj in
    omega (arith, long, c.if-values-gt-MOST_ACCEPTED.false)

pub loop-value-preserved : goal.loop-value-preserved
loop-value-preserved c =
    let values = c.args.values.now in
    let i = c.loop-value.value-index in
    let pushed : c.push.new.self.items ≡ c.loop-value.objects.items ++ (c.in-Obj.object ∷ []) = rw c.if-is_err.ensures.negation at c.push.ensures.items in
    take_more values i c.value-item.result c.loop-value-test.true ∙ ap (λ (v : Value). take i values ++ (v ∷ [])) (sym c.value-item.is ∙ c.in-Obj.is) ∙ ap (λ (l : List Value). l ++ (Obj c.in-Obj.object ∷ [])) c.loop-value.invariant
    ∙ sym (map-append Obj c.loop-value.objects.items (c.in-Obj.object ∷ [])) ∙ ap (λ (l : List ObjNo). map Obj l) (sym pushed)
