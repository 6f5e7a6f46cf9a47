use Rattle.moo_memory.proofs.Words.{None, subst, ties_of, ap, ◌∙◌, get, get-remove, contents, object_cmp, object_total, covered-remove}
use Rattle.moo_memory.{proofs.Keeping.{remove-other}, specs.Forgotten.{Forgets}}
use Rattle.std.specs.Option.{option_map}
use Rattle.moo_memory.proofs.flat.FlatRows.remove_object.Goals as goal

pub invariant_of-self : goal.invariant_of-self
invariant_of-self c = (
  covered-remove (get (contents object_cmp c.self.inside.objects)) (get (contents object_cmp c.remove.new.rows)) c.args.key c.self.inside.links c.forget.new.self c.self.invariant.0
      (λ l q has e. c.forget.ensures.only l q has e)
      (λ q. ap (λ m. get m q) c.remove.ensures ∙ get-remove object_total (contents object_cmp c.self.inside.objects) c.args.key q),
  c.self.invariant.1,
  c.self.invariant.2,
  remove-other (get (contents object_cmp c.self.inside.objects)) (get (contents object_cmp c.remove.new.rows)) c.args.key c.self.inside.links c.self.invariant.3 c.forget.new.self
      (subst (λ was. Forgets c.args.key was None c.self.inside.links c.forget.new.self) (c.ties_of-old.ensures ∙ ap (option_map ties_of) c.get.ensures) c.forget.ensures.gone)
      (λ q. ap (λ m. get m q) c.remove.ensures ∙ get-remove object_total (contents object_cmp c.self.inside.objects) c.args.key q),
)
