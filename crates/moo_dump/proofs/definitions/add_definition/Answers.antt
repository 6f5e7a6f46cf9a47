use Rattle.moo_dump.{proofs.Words.{arith, rules, ◌++◌, [], ◌∷◌, Option, Some, cond, ap, ◌∙◌, unwrap_or, option_map, is_at, Vec, PropId, object_cmp}, proofs.Listing.{listed_more}}
use Rattle.moo_dump.proofs.definitions.add_definition.Goals as goal
use Rattle.std.specs.BTreeMap.{get}

pub returns-in_ok-push-in-Some : goal.returns-in_ok-push-in-Some
returns-in_ok-push-in-Some c =
    listed_more c.args.definitions.now (c.get_mut.follows.lender c.push.new.self) c.args.definer c.push.new.self c.args.id
    ((c.get_mut.follows.holds c.push.new.self).3 (search rules)).0
    (c.in_ok-push-in-Some.ensures.items ∙ ap (λ (o : Option (Vec PropId)). unwrap_or (option_map (λ w. w.items) o) [] ++ c.args.id ∷ []) c.in-Some.ensures.value)

pub returns-in_ok-insert-in-None : goal.returns-in_ok-insert-in-None
returns-in_ok-insert-in-None c =
    listed_more c.args.definitions.now c.insert.new.self c.args.definer c.in_ok-vec-in-None.field-0 c.args.id
    (λ q. c.in_ok-insert-in-None.ensures.updates.0 q ∙ ap (λ m. cond (is_at (object_cmp c.args.definer) q) (Some c.in_ok-vec-in-None.field-0) (get object_cmp m q)) c.get_mut.follows.holds-at-none)
    (c.in_ok-vec-in-None.ensures.items ∙ ap (λ (o : Option (Vec PropId)). unwrap_or (option_map (λ w. w.items) o) [] ++ c.args.id ∷ []) c.in-None.ensures.value)
