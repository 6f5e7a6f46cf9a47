use Rattle.moo_memory.{proofs.Words.{ap, ◌∙◌, less-parents, less-locations, less-players, ties_have}, proofs.Drafts.{may-as-before}, proofs.Keeping.{gone-locations, gone-parents, gone-players}}
use Rattle.moo_memory.proofs.links.Links.forget_one.Goals as goal

pub returns-in-ChildOf-clause-only : goal.returns-in-ChildOf-clause-only
returns-in-ChildOf-clause-only c l q has e =
    may-as-before _ _ _ c.self.view_is l q (less-parents _ c.args.key c.args.stays c.in-ChildOf.x (c.if-have_link.ensures ∙ ap (λ l. ties_have l c.args.stays) c.in-ChildOf.is) _ c.remove.ensures l q has) e

pub returns-in-Within-clause-only : goal.returns-in-Within-clause-only
returns-in-Within-clause-only c l q has e =
    may-as-before _ _ _ c.self.view_is l q (less-locations _ c.args.key c.args.stays c.in-Within.x (c.if-have_link.ensures ∙ ap (λ l. ties_have l c.args.stays) c.in-Within.is) _ c.remove-in-Within.ensures l q has) e

pub returns-in-Player-clause-only : goal.returns-in-Player-clause-only
returns-in-Player-clause-only c l q has e =
    may-as-before _ _ _ c.self.view_is l q (less-players _ c.args.key c.args.stays (c.if-have_link.ensures ∙ ap (λ l. ties_have l c.args.stays) c.in-Player.is) _ c.remove-in-Player.ensures l q has) e

pub returns-in-ChildOf-clause-gone : goal.returns-in-ChildOf-clause-gone
returns-in-ChildOf-clause-gone c = gone-parents _ _ c.self.view_is c.args.link c.args.key c.args.stays c.in-ChildOf.x c.in-ChildOf.is _ c.remove.ensures

pub returns-in-Within-clause-gone : goal.returns-in-Within-clause-gone
returns-in-Within-clause-gone c = gone-locations _ _ c.self.view_is c.args.link c.args.key c.args.stays c.in-Within.x c.in-Within.is _ c.remove-in-Within.ensures

pub returns-in-Player-clause-gone : goal.returns-in-Player-clause-gone
returns-in-Player-clause-gone c = gone-players _ _ c.self.view_is c.args.link c.args.key c.args.stays c.in-Player.is _ c.remove-in-Player.ensures
