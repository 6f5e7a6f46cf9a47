use Rattle.std.proofs.Common.{rules, ◌≡◌, [], ◌∷◌, ap, sym, ◌∙◌}
use Rattle.moo_value.specs.declared.value.Value.TheVariants.{Obj, Str}
use Rattle.moo_rows.specs.Bits.{letters_of}
use Rattle.moo_world.{specs.Answers.{list_of}, specs.Outcomes.{Done, fails}, specs.PropertyCalls.{property_info}, specs.World.{is_object}}
use Rattle.moo_calls_shared.{specs.Outcomes.{world_in}, proofs.Passed.{check_passed}}
use Rattle.moo_calls_properties.proofs.reading.property_info.Goals as goal

pub returns-in_err-found : goal.returns-in_err-found
returns-in_err-found g c =
    let w = world_in (g.R.Rows.held c.args.rows.now) in
    let failed : property_info w c.args.programmer c.args.x c.args.name.now ≡ fails c.in_err-found.field-0.0 =
    check_passed (is_object w c.args.x) _ _ (sym c.valid.ensures ∙ c.if-not-valid.false)
    ∙ c.in_err-found.ensures.err (λ s. Done (list_of (Obj s.owner ∷ Str (letters_of s.bits) ∷ [])) w)
    in search rules

pub returns : goal.returns
returns g c =
    let w = world_in (g.R.Rows.held c.args.rows.now) in
    record {
      comes =
          check_passed (is_object w c.args.x) _ _ (sym c.valid.ensures ∙ c.if-not-valid.false)
          ∙ c.in_ok-found.ensures.ok (λ s. Done (list_of (Obj s.owner ∷ Str (letters_of s.bits) ∷ [])) w)
          ∙ ap (λ info. Done info w) (sym c.in_ok-info_list.ensures);
    }
