use Rattle.moo_memory.proofs.Words.{◌≡◌, AreCovered, Some, subst, ap, ◌∙◌, arith, rules, get, get-insert, contents, object_cmp, has_link, ties_of, sym, object_total, covered-put, covered-there, stays-there}
use Rattle.moo_memory.proofs.flat.FlatRows.put_object.Goals as goal
use Rattle.moo_memory.{proofs.Keeping.{back-covered, back-other, put-other, same-other}, specs.Forgotten.{AddsOnly, Forgets, ForgetsOnly, KeepsNoOther}}
use Rattle.std.{specs.Option.{option_map}, proofs.lemmas.Grind.{common_steps}}

pub invariant_of-self-then-same_ties : goal.invariant_of-self-then-same_ties
invariant_of-self-then-same_ties c =
    let row_at = get (contents object_cmp c.self.inside.objects) in
    let was : option_map ties_of (row_at c.args.key) ≡ Some (ties_of c.args.row) = search rules in (
      covered-put row_at (get (contents object_cmp c.replace.new.rows)) c.args.key c.self.inside.links c.self.inside.links c.args.row c.self.invariant.0 (λ l q _ e. e)
          (λ l h. covered-there l c.args.row row_at c.self.inside.links c.args.key c.self.invariant.0 was h)
          (λ q. ap (λ m. get m q) c.in_ok-old.ensures.ok ∙ get-insert object_total (contents object_cmp c.self.inside.objects) c.args.key c.args.row q),
      c.self.invariant.1,
      c.self.invariant.2,
      same-other row_at (get (contents object_cmp c.replace.new.rows)) c.args.key c.self.inside.links c.self.invariant.3 c.args.row was
          (λ q. ap (λ m. get m q) c.in_ok-old.ensures.ok ∙ get-insert object_total (contents object_cmp c.self.inside.objects) c.args.key c.args.row q),
    )

pub invariant_of-self-in-Err : goal.invariant_of-self-in-Err
invariant_of-self-in-Err c =
    let row_at = get (contents object_cmp c.self.inside.objects) in
    let back : contents object_cmp c.put_back.new.rows ≡ contents object_cmp c.self.inside.objects =
    c.put_back.ensures (contents object_cmp c.self.inside.objects) c.args.row c.in_ok-old.ensures.ok c.in_ok-old.ensures.old in
    let was : c.ties_of-was.result ≡ option_map ties_of (row_at c.args.key) = search rules in (
      subst (λ m. AreCovered (get m) c.forget.new.self) (sym back)
          (back-covered row_at c.args.key c.self.inside.links c.add.new.self c.forget.new.self c.self.invariant.0 c.add.ensures.others
          (subst (λ was. ForgetsOnly c.args.key was c.add.new.self c.forget.new.self) was c.forget.ensures.only)),
      c.self.invariant.1,
      c.self.invariant.2,
      subst (λ m. KeepsNoOther (get m) c.forget.new.self) (sym back)
          (back-other row_at row_at c.args.key c.self.inside.links c.self.invariant.3 c.add.new.self c.forget.new.self c.ties-ties.result c.add.ensures.only
          (subst (λ was. Forgets c.args.key (Some c.ties-ties.result) was c.add.new.self c.forget.new.self) was c.forget.ensures.gone)),
    )

pub invariant_of-self-2 : goal.invariant_of-self-2
invariant_of-self-2 c =
    let row_at = get (contents object_cmp c.self.inside.objects) in
    let ties = c.ties-ties.ensures in
    let was : c.ties_of-was.result ≡ option_map ties_of (row_at c.args.key) = search rules in (
      covered-put row_at (get (contents object_cmp c.replace.new.rows)) c.args.key c.self.inside.links c.forget-2.new.self c.args.row c.self.invariant.0
          (λ l q has e. c.add.ensures.others l q (c.forget-2.ensures.only l q (λ same. ap (has_link l) ties ∙ has same) e))
          (λ l h. stays-there l c.args.row c.forget-2.new.self c.add.new.self c.args.key (c.forget-2.ensures.only l c.args.key (λ _. ap (has_link l) ties ∙ h)) (c.in_default.ensures.there l (ap (has_link l) ties ∙ h)))
          (λ q. ap (λ m. get m q) c.in_ok-old.ensures.ok ∙ get-insert object_total (contents object_cmp c.self.inside.objects) c.args.key c.args.row q),
      c.self.invariant.1,
      c.self.invariant.2,
      put-other row_at (get (contents object_cmp c.replace.new.rows)) c.args.key c.self.inside.links c.self.invariant.3 c.add.new.self c.forget-2.new.self c.args.row
          (subst (λ ties. AddsOnly c.args.key ties c.self.inside.links c.add.new.self) ties c.add.ensures.only)
          (subst (λ was. Forgets c.args.key was (Some (ties_of c.args.row)) c.add.new.self c.forget-2.new.self) was (subst (λ ties. Forgets c.args.key c.ties_of-was.result (Some ties) c.add.new.self c.forget-2.new.self) ties c.forget-2.ensures.gone))
          (λ q. ap (λ m. get m q) c.in_ok-old.ensures.ok ∙ get-insert object_total (contents object_cmp c.self.inside.objects) c.args.key c.args.row q),
    )

pub returns-clause-ok : goal.returns-clause-ok
returns-clause-ok c = grind (arith, common_steps)

pub returns-then-same_ties-clause-ok : goal.returns-then-same_ties-clause-ok
returns-then-same_ties-clause-ok c = grind (arith, common_steps)
