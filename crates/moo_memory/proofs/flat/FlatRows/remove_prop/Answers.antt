use Rattle.moo_memory.{proofs.Words.{◌≡◌, rules, None, ap, subst, ◌∙◌, get, get-remove, contents, prop_cmp, slot_cmp, prop_total, named_cmp, tag_of}, proofs.Keys.{keys-removed}, specs.Forgotten.{ForgetsKey}}
use Rattle.std.specs.Option.{option_map}
use Rattle.moo_rows.specs.declared.row.PropRow.{PropRow}
use Rattle.moo_memory.proofs.flat.FlatRows.remove_prop.Goals as goal

pub invariant_of-self : goal.invariant_of-self
invariant_of-self c =
    let row_at = get (contents prop_cmp c.self.inside.props) in
    let row_at' = get (contents prop_cmp c.remove.new.rows) in
    let defined : c.definer_of-definer.result ≡ option_map (λ (row : PropRow). row.definer) (row_at c.args.key) = search rules in
    let was : c.tag_if-tag.result ≡ option_map tag_of (row_at c.args.key) = search rules in (
      c.self.invariant.0,
      keys-removed (λ (row : PropRow). row.definer) row_at row_at' c.args.key (contents slot_cmp c.self.inside.definers) c.self.invariant.1 (contents slot_cmp c.forget_defined.new.pairs)
          (subst (λ was. ForgetsKey c.args.key was None (contents slot_cmp c.self.inside.definers) (contents slot_cmp c.forget_defined.new.pairs)) defined c.forget_defined.ensures)
          (λ q. ap (λ m. get m q) c.remove.ensures ∙ get-remove prop_total (contents prop_cmp c.self.inside.props) c.args.key q),
      keys-removed tag_of row_at row_at' c.args.key (contents named_cmp c.self.inside.names) c.self.invariant.2 (contents named_cmp c.forget_tagged.new.names)
          (subst (λ was. ForgetsKey c.args.key was None (contents named_cmp c.self.inside.names) (contents named_cmp c.forget_tagged.new.names)) was c.forget_tagged.ensures)
          (λ q. ap (λ m. get m q) c.remove.ensures ∙ get-remove prop_total (contents prop_cmp c.self.inside.props) c.args.key q),
      c.self.invariant.3,
    )
