use Rattle.std.{proofs.Common.{◌≡◌, ◌∙◌, ◌++◌, ◌+◌, ◌<◌, pos, [], length, get_or, take, drop, sym, ap, rules, arith}, specs.List.{flat_map}, proofs.lemmas.Grind.{common_steps}, proofs.lemmas.List.{take_all, append-nil, append_assoc, at_drop_more}}
use Rattle.moo_world.specs.Rows.{world_of}
use Rattle.moo_disclosure.{specs.Disclosed.{names_listed}, proofs.Fronts.{front_again, front_short}}
use Rattle.moo_disclosure.proofs.meant.names_on.Goals as goal

pub loop-object-preserved : goal.loop-object-preserved
loop-object-preserved g c =
    let listed = names_listed (world_of (g.R.Rows.held c.args.rows.now).maps) c.args.programmer in
    let names = c.loop-object.names.items in
    let rest = flat_map listed (drop (c.loop-object.object-index + 1) c.args.objects.now) in
    let x = get_or c.args.objects.now c.loop-object.object-index (record { 0 = pos 0 }) in
    let within : c.loop-object.object-index < length c.args.objects.now = search rules in
    let added : c.add_listed.new.names.items ≡ take 200 (names ++ listed x) = search rules in
    record {
      begins = ap (λ l. take 200 (l ++ rest)) added ∙ front_again 200 (names ++ listed x) rest
          ∙ ap (take 200) (append_assoc names (listed x) rest)
          ∙ sym (at_drop_more (λ l. take 200 (names ++ flat_map listed l)) c.args.objects.now c.loop-object.object-index (record { 0 = pos 0 }) within)
          ∙ c.loop-object.invariant.begins;
      room = front_short 200 (names ++ listed x) c.add_listed.new.names.items added;
    }

pub returns : goal.returns
returns g c =
    let listed = names_listed (world_of (g.R.Rows.held c.args.rows.now).maps) c.args.programmer in
    let names = c.loop-object.names.items in
    let none : drop c.loop-object.object-index c.args.objects.now ≡ [] = grind (arith, common_steps) in
    sym (ap (λ l. take 200 (names ++ flat_map listed l)) none ∙ ap (take 200) (append-nil names) ∙ take_all 200 names c.loop-object.invariant.room)
    ∙ c.loop-object.invariant.begins
