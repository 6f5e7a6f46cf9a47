use Rattle.std.{proofs.Common.{rules, ◌≡◌, ◌∙◌, ◌-◌, true, false, Some, [], map, take, sym, ap, arith}, specs.Prelude.{is_some, if◌then◌else◌}, specs.List.{find}}
use Rattle.moo_rows.specs.Links.{defined_left}
use Rattle.moo_props.{proofs.DefinedNames.{names_listed}, proofs.WholeWalks.{defined_all}}
use Rattle.moo_world.specs.Objects.{Name, folded}
use Rattle.moo_world.specs.Rows.{world_of}
use Rattle.moo_world.specs.World.{slot_of}
use Rattle.moo_disclosure.proofs.Finding.{found_next, nothing_found}
use Rattle.moo_disclosure.proofs.clash.name_shared.Goals as goal

-- there is no room for more
pub returns-then-room-eq0 : goal.returns-then-room-eq0
returns-then-room-eq0 g c =
    let m = (g.R.Rows.held c.args.rows.now).maps in
    let has = λ (name : Name). is_some (slot_of (world_of m) c.args.new (folded name)) in
    let left = defined_left c.loop-id._id-iterator.definer c.loop-id._id-iterator.last (g.R.Rows.held c.loop-id._id-iterator.rows.now).maps in
    ap (λ n. find has (take n (map (λ e. e.1.name) left))) (sym c.if-room-eq0.true)
    ∙ c.loop-id.invariant.first
    ∙ ap (λ l. find has (take 200 l)) (ap (map (λ e. e.1.name)) (defined_all m c.requires c.args.definer) ∙ names_listed m c.requires.sound c.args.definer)

-- the new parent has it
pub returns-then-is_some : goal.returns-then-is_some
returns-then-is_some g c =
    let m = (g.R.Rows.held c.args.rows.now).maps in
    let has = λ (name : Name). is_some (slot_of (world_of m) c.args.new (folded name)) in
    let rest = find has (take (c.loop-id.room - 1) (map (λ e. e.1.name) (defined_left c.next.new.self.definer c.next.new.self.last (g.R.Rows.held c.next.new.self.rows.now).maps))) in
    let here : has c.in-Some.row.now.name ≡ true = sym c.find.ensures.exact ∙ sym c.is_some.ensures ∙ c.if-is_some.true in
    sym (ap (λ b. if b then Some c.in-Some.row.now.name else rest) here)
    ∙ sym (found_next (λ e. e.1.name) has c.loop-id.room (c.in-Some._id, c.in-Some.row.now) _ _ c.in-Some.ensures.steps c.if-room-eq0.false)
    ∙ c.loop-id.invariant.first
    ∙ ap (λ l. find has (take 200 l)) (ap (map (λ e. e.1.name)) (defined_all m c.requires c.args.definer) ∙ names_listed m c.requires.sound c.args.definer)

pub loop-id-preserved : goal.loop-id-preserved
loop-id-preserved g c =
    let m = (g.R.Rows.held c.args.rows.now).maps in
    let has = λ (name : Name). is_some (slot_of (world_of m) c.args.new (folded name)) in
    let rest = find has (take (c.loop-id.room - 1) (map (λ e. e.1.name) (defined_left c.next.new.self.definer c.next.new.self.last (g.R.Rows.held c.next.new.self.rows.now).maps))) in
    let lacks : has c.in-Some.row.now.name ≡ false = sym c.find.ensures.exact ∙ sym c.is_some.ensures ∙ c.if-is_some.false in
    record {
      first = sym (ap (λ b. if b then Some c.in-Some.row.now.name else rest) lacks)
          ∙ sym (found_next (λ e. e.1.name) has c.loop-id.room (c.in-Some._id, c.in-Some.row.now) _ _ c.in-Some.ensures.steps c.if-room-eq0.false)
          ∙ c.loop-id.invariant.first;
      room = omega (arith, c.loop-id.invariant.room);
    }

-- none is left
pub returns : goal.returns
returns g c =
    let m = (g.R.Rows.held c.args.rows.now).maps in
    let has = λ (name : Name). is_some (slot_of (world_of m) c.args.new (folded name)) in
    let left = map (λ e. e.1.name) (defined_left c.loop-id._id-iterator.definer c.loop-id._id-iterator.last (g.R.Rows.held c.loop-id._id-iterator.rows.now).maps) in
    let none : left ≡ [] = search rules in
    sym (ap (λ l. find has (take c.loop-id.room l)) none ∙ nothing_found has c.loop-id.room)
    ∙ c.loop-id.invariant.first
    ∙ ap (λ l. find has (take 200 l)) (ap (map (λ e. e.1.name)) (defined_all m c.requires c.args.definer) ∙ names_listed m c.requires.sound c.args.definer)
