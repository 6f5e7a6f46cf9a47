use Rattle.moo_damage.{proofs.Words.{Option, None, Some, subst, IfNone, Parent, Location, LinksEnd, InRows}, proofs.Good.{tree_of, good}, proofs.InTurn.{first_told}}
use Rattle.moo_damage.proofs.damage.damage_of.Goals as goal

weaker : {T : Type 0} (o : Option T) (A B : Type 0) → (A → B) → IfNone o A → IfNone o B
weaker None A B f a = f a
weaker (Some x) A B f a = a

pub slots_are_owed-requires-clause-tree : goal.slots_are_owed-requires-clause-tree
slots_are_owed-requires-clause-tree g c =
    let m = (g.R.Rows.held c.args.rows.now).maps in
    tree_of m c.in_default.ensures.given (subst (λ o. IfNone o (LinksEnd Parent m)) c.in_default-2.is c.in_ok-damage.ensures.ends)
    (subst (λ o. IfNone o (LinksEnd Location m)) c.in_default-3.is c.in_ok-damage-2.ensures.ends)

pub wrong_property-requires-clause-tree : goal.wrong_property-requires-clause-tree
wrong_property-requires-clause-tree g c =
    let m = (g.R.Rows.held c.args.rows.now).maps in
    tree_of m c.in_default.ensures.given (subst (λ o. IfNone o (LinksEnd Parent m)) c.in_default-2.is c.in_ok-damage.ensures.ends)
    (subst (λ o. IfNone o (LinksEnd Location m)) c.in_default-3.is c.in_ok-damage-2.ensures.ends)

pub wrong_slot_or_verb-requires-clause-tree : goal.wrong_slot_or_verb-requires-clause-tree
wrong_slot_or_verb-requires-clause-tree g c =
    let m = (g.R.Rows.held c.args.rows.now).maps in
    tree_of m c.in_default.ensures.given (subst (λ o. IfNone o (LinksEnd Parent m)) c.in_default-2.is c.in_ok-damage.ensures.ends)
    (subst (λ o. IfNone o (LinksEnd Location m)) c.in_default-3.is c.in_ok-damage-2.ensures.ends)

pub slots_are_owed-requires-clause-numbered : goal.slots_are_owed-requires-clause-numbered
slots_are_owed-requires-clause-numbered g c id p e = (c.requires.props id p e).0

pub returns-clause-good : goal.returns-clause-good
returns-clause-good g c =
    let m = (g.R.Rows.held c.args.rows.now).maps in
    weaker c.wrong_slot_or_verb.result _ _
    (λ slots. good m c.requires (record {
      numbers = c.in_default.ensures.given;
      chains = subst (λ o. IfNone o (LinksEnd Parent m)) c.in_default-2.is c.in_ok-damage.ensures.ends;
      locations = subst (λ o. IfNone o (LinksEnd Location m)) c.in_default-3.is c.in_ok-damage-2.ensures.ends;
      props = c.in_default-wrong_property.ensures.right;
      slots = slots;
    })) c.wrong_slot_or_verb.ensures.right

pub returns-clause-first : goal.returns-clause-first
returns-clause-first g c = first_told (InRows ((g.R.Rows.held c.args.rows.now).maps)) 14 c.wrong_slot_or_verb.result c.wrong_slot_or_verb.ensures.first
