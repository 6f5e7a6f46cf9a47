use Rattle.std.{proofs.Common.{◌≡◌, ◌<◌, pos, sym, ap, ◌∙◌, rules, to_z, of_z, w64}, proofs.lemmas.Bool.{lt-ltb}}
use Rattle.moo_value.{specs.declared.value.Value.{Value}, specs.declared.value.Value.TheVariants.{Int}}
use Rattle.moo_world.{specs.Outcomes.{Done, Full, check}, specs.Objects.{number_limit}, specs.Requests.{asked}}
use Rattle.moo_batch.{specs.Outcomes.{state_in}, proofs.Beside.{asked-keeps, asked-state}}
use Rattle.moo_batch.proofs.asking.add_petition.Goals as goal

pub returns-clause-reaches : goal.returns-clause-reaches
returns-clause-reaches g c =
    let old = g.R.Rows.held c.args.rows.now in
    let s = state_in old in
    let left : old.maps.head.next_petition < 4294967295 = search rules in
    let answer : Value = Int (pos s.next_petition) in
    let number : answer ≡ Int (to_z w64 (of_z w64 c.from.result)) = search rules in
    ap (λ b. check b Full (Done (Int (pos s.next_petition)) (asked s c.args.programmer c.args.calls))) (lt-ltb s.next_petition number_limit left)
    ∙ (λ i. Done (number i) (sym (asked-state old (g.R.Rows.held c.put_petition.new.self) (g.R.Rows.held c.set_head.new.self) c.head-head.result c.args.programmer c.args.calls c.head-head.ensures c.in_ok-put_petition.ensures.ok c.set_head.ensures) i))

pub returns-clause-kept : goal.returns-clause-kept
returns-clause-kept g c =
    let old = g.R.Rows.held c.args.rows.now in
    let left : old.maps.head.next_petition < 4294967295 = search rules in
    asked-keeps old (g.R.Rows.held c.put_petition.new.self) (g.R.Rows.held c.set_head.new.self) c.head-head.result c.args.programmer c.args.calls c.head-head.ensures c.in_ok-put_petition.ensures.ok c.set_head.ensures
    c.requires.good c.requires.fit left
