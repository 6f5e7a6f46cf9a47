use Rattle.moo_dump.{proofs.Words.{arith, ◌++◌, ℕ, Option, Some, None, [], ap, sym, ◌∙◌, append-nil, Vec, property_line_of}, specs.Dump.{property_line}, proofs.FlatMaps.{one_more, all_made}, proofs.objects.put_properties.Goals.{in-Some+in_ok-put_property_line, in_default}}
use Rattle.moo_dump.proofs.objects.put_properties.Goals as goal
use Rattle.moo_rows.specs.declared.row.PropRow.{PropRow}

pub loop-id-preserved : goal.loop-id-preserved
loop-id-preserved g c =
    let line = λ (o : Option PropRow). c.loop-id.out.items ++ elim o [ None ↦ [] | Some p ↦ property_line c.args.x p.name ] in
    one_more (property_line_of (g.R.Rows.held c.args.rows.now).maps c.args.x) c.args.out.now.items c.args.ids.now c.loop-id.id-index (record { 0 = 0 }) c.loop-id.out.items c.match-prop.out.items c.loop-id-test.true
    (elim c.match-prop.branch [
      | in-Some+in_ok-put_property_line w ↦ ap (λ (v : Vec ℕ). v.items) w.out-is ∙ w.in_ok-put_property_line.ensures ∙ ap line w.in-Some.ensures
      | in_default w ↦ ap (λ (v : Vec ℕ). v.items) w.out-is ∙ sym (append-nil c.loop-id.out.items) ∙ ap line w.in_default.ensures
    ])
    c.loop-id.invariant

pub returns : goal.returns
returns g c = all_made (property_line_of (g.R.Rows.held c.args.rows.now).maps c.args.x) c.args.out.now.items c.args.ids.now c.loop-id.id-index c.loop-id.out.items c.loop-id-test.false c.loop-id.invariant
