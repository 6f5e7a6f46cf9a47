use Rattle.moo_verbs.{proofs.Words.{arith, ◌≡◌, true, sym, ap, ◌∙◌, subst, IfSome, option_map, position, position_or_len, VerbRow, world_of, directory_of, one_matches, has_verb, verb_place}, proofs.Found.{id_of, found_place, found_held, found_word}}
use Rattle.moo_verbs.proofs.find.find_verb.Goals as goal
use Rattle.moo_world.specs.Descriptors.{described}

pub returns-in-Some-clause-place : goal.returns-in-Some-clause-place
returns-in-Some-clause-place g c = grind (arith, found_place)

pub returns-in-Some-clause-held : goal.returns-in-Some-clause-held
returns-in-Some-clause-held g c = grind (arith, found_held)

pub returns-in-Name-clause-place : goal.returns-in-Name-clause-place
returns-in-Name-clause-place g c =
    let m = (g.R.Rows.held c.args.rows.now).maps in
    let test = λ (v : VerbRow). one_matches v.names c.bytes.result.now in
    ap (option_map (verb_place m c.args.x)) (c.verb_named.ensures ∙ ap (option_map id_of) (found_word m c.requires c.args.x test))
    ∙ found_place m c.requires c.args.x (position_or_len test (directory_of (world_of m) c.args.x))
    ∙ ap (λ b. position (λ (v : VerbRow). one_matches v.names b) (directory_of (world_of m) c.args.x)) c.bytes.ensures.value
    ∙ ap (described (world_of m) c.args.x) (sym c.in-Name.is)

pub returns-in-Name-clause-held : goal.returns-in-Name-clause-held
returns-in-Name-clause-held g c =
    let m = (g.R.Rows.held c.args.rows.now).maps in
    let test = λ (v : VerbRow). one_matches v.names c.bytes.result.now in
    subst (λ o. IfSome o (λ id. has_verb m c.args.x id ≡ true)) (sym (c.verb_named.ensures ∙ ap (option_map id_of) (found_word m c.requires c.args.x test)))
    (found_held m c.requires c.args.x (position_or_len test (directory_of (world_of m) c.args.x)))
