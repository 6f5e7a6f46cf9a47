use Rattle.moo_memory.{proofs.Words.{◌≡◌, cond, eq_by_cmp, is_some, true, PropId, Some, sym, ap, ◌∙◌, subst, rules, get, get-insert, contents, prop_cmp, slot_cmp, prop_total, Tag, named_cmp, tag_of}, proofs.Keys.{keys-back, keys-put}, specs.Forgotten.{AddsAtMost, AreKeysOf, ForgetsKey}}
use Rattle.std.specs.Option.{option_map}
use Rattle.moo_rows.specs.declared.row.PropRow.{PropRow}
use Rattle.moo_memory.proofs.flat.FlatRows.put_prop.Goals as goal

pub invariant_of-self-in-Err : goal.invariant_of-self-in-Err
invariant_of-self-in-Err c =
    let row_at = get (contents prop_cmp c.self.inside.props) in
    let back : contents prop_cmp c.put_back.new.rows ≡ contents prop_cmp c.self.inside.props =
    c.put_back.ensures (contents prop_cmp c.self.inside.props) c.args.row c.in_ok-old.ensures.ok c.in_ok-old.ensures.old in
    let defined : c.definer_of-defined.result ≡ option_map (λ (row : PropRow). row.definer) (row_at c.args.key) = search rules in
    let was : c.tag_if-was.result ≡ option_map tag_of (row_at c.args.key) = search rules in
    let definers = contents slot_cmp c.keep_property.new.definers in
    let names = contents named_cmp c.keep_property.new.names in (
      c.self.invariant.0,
      subst (λ m. AreKeysOf (λ (row : PropRow). row.definer) (get m) (contents slot_cmp c.forget_defined.new.pairs)) (sym back)
          (keys-back (λ (row : PropRow). row.definer) row_at row_at c.args.key (contents slot_cmp c.self.inside.definers) c.self.invariant.1 definers (contents slot_cmp c.forget_defined.new.pairs) c.args.row.definer
          (subst (λ (tag : Tag). AddsAtMost (tag.0, c.args.key) (contents slot_cmp c.self.inside.definers) definers) c.tag_of-tag.ensures c.keep_property.ensures.definers)
          (subst (λ was. ForgetsKey c.args.key (Some c.args.row.definer) was definers (contents slot_cmp c.forget_defined.new.pairs)) defined c.forget_defined.ensures)),
      subst (λ m. AreKeysOf tag_of (get m) (contents named_cmp c.forget_tagged.new.names)) (sym back)
          (keys-back tag_of row_at row_at c.args.key (contents named_cmp c.self.inside.names) c.self.invariant.2 names (contents named_cmp c.forget_tagged.new.names) c.tag_of-tag.result c.keep_property.ensures.names
          (subst (λ was. ForgetsKey c.args.key (Some c.tag_of-tag.result) was names (contents named_cmp c.forget_tagged.new.names)) was c.forget_tagged.ensures)),
      c.self.invariant.3,
    )

pub invariant_of-self-2 : goal.invariant_of-self-2
invariant_of-self-2 c =
    let row_at = get (contents prop_cmp c.self.inside.props) in
    let put : (q : PropId) → get (contents prop_cmp c.replace.new.rows) q ≡ cond (eq_by_cmp prop_cmp q c.args.key) (Some c.args.row) (row_at q) =
    λ q. ap (λ m. get m q) c.in_ok-old.ensures.ok ∙ get-insert prop_total (contents prop_cmp c.self.inside.props) c.args.key c.args.row q in
    let defined : c.definer_of-defined.result ≡ option_map (λ (row : PropRow). row.definer) (row_at c.args.key) = search rules in
    let was : c.tag_if-was.result ≡ option_map tag_of (row_at c.args.key) = search rules in
    let definers = contents slot_cmp c.keep_property.new.definers in
    let names = contents named_cmp c.keep_property.new.names in (
      c.self.invariant.0,
      keys-put (λ (row : PropRow). row.definer) row_at (get (contents prop_cmp c.replace.new.rows)) c.args.key (contents slot_cmp c.self.inside.definers) c.self.invariant.1 definers (contents slot_cmp c.forget_defined-2.new.pairs) c.args.row
          (subst (λ (tag : Tag). AddsAtMost (tag.0, c.args.key) (contents slot_cmp c.self.inside.definers) definers) c.tag_of-tag.ensures c.keep_property.ensures.definers)
          (subst (λ (tag : Tag). is_some (get definers (tag.0, c.args.key)) ≡ true) c.tag_of-tag.ensures c.in_default.ensures.both.0)
          (subst (λ was. ForgetsKey c.args.key was (Some c.args.row.definer) definers (contents slot_cmp c.forget_defined-2.new.pairs)) defined c.forget_defined-2.ensures)
          put,
      keys-put tag_of row_at (get (contents prop_cmp c.replace.new.rows)) c.args.key (contents named_cmp c.self.inside.names) c.self.invariant.2 names (contents named_cmp c.forget_tagged-2.new.names) c.args.row
          (subst (λ (tag : Tag). AddsAtMost (tag, c.args.key) (contents named_cmp c.self.inside.names) names) c.tag_of-tag.ensures c.keep_property.ensures.names)
          (subst (λ (tag : Tag). is_some (get names (tag, c.args.key)) ≡ true) c.tag_of-tag.ensures c.in_default.ensures.both.1)
          (subst (λ was. ForgetsKey c.args.key was (Some (tag_of c.args.row)) names (contents named_cmp c.forget_tagged-2.new.names)) was
          (subst (λ (tag : Tag). ForgetsKey c.args.key c.tag_if-was.result (Some tag) names (contents named_cmp c.forget_tagged-2.new.names)) c.tag_of-tag.ensures c.forget_tagged-2.ensures))
          put,
      c.self.invariant.3,
    )
