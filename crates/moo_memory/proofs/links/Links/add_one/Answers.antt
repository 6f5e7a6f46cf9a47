use Rattle.moo_memory.{proofs.Words.{object_exact, object_total, sym, ◌∙◌, tie_total, lacked-put, more-parents, more-locations, more-players}, proofs.Drafts.{may-as-before, may-as-put}, proofs.Keeping.{also-locations, also-parents, also-players, had-put}}
use Rattle.moo_rows.specs.Exact.{tie_exact}
use Rattle.moo_memory.proofs.links.Links.add_one.Goals as goal

pub returns-in-ChildOf-clause-others : goal.returns-in-ChildOf-clause-others
returns-in-ChildOf-clause-others c l q e = may-as-before _ _ _ c.self.view_is l q (more-parents _ _ (lacked-put tie_total c.put.result _ _ (c.in-ChildOf.x, c.args.key) tt c.put.ensures.ok c.put.ensures.err) l q) e

pub returns-in-ChildOf-clause-there : goal.returns-in-ChildOf-clause-there
returns-in-ChildOf-clause-there c = may-as-put tie_total c.put.result _ _ (c.in-ChildOf.x, c.args.key) _ _ _ _ c.in-ChildOf.is (λ kept. kept) c.put.ensures.ok

pub returns-in-Within-clause-others : goal.returns-in-Within-clause-others
returns-in-Within-clause-others c l q e = may-as-before _ _ _ c.self.view_is l q (more-locations _ _ (lacked-put tie_total c.put-in-Within.result _ _ (c.in-Within.x, c.args.key) tt c.put-in-Within.ensures.ok c.put-in-Within.ensures.err) l q) e

pub returns-in-Within-clause-there : goal.returns-in-Within-clause-there
returns-in-Within-clause-there c = may-as-put tie_total c.put-in-Within.result _ _ (c.in-Within.x, c.args.key) _ _ _ _ c.in-Within.is (λ kept. kept) c.put-in-Within.ensures.ok

pub returns-in-Player-clause-others : goal.returns-in-Player-clause-others
returns-in-Player-clause-others c l q e = may-as-before _ _ _ c.self.view_is l q (more-players _ _ (lacked-put object_total c.put-in-Player.result _ _ c.args.key tt c.put-in-Player.ensures.ok c.put-in-Player.ensures.err) l q) e

pub returns-in-Player-clause-there : goal.returns-in-Player-clause-there
returns-in-Player-clause-there c = may-as-put object_total c.put-in-Player.result _ _ c.args.key _ _ _ _ c.in-Player.is (λ kept. kept) c.put-in-Player.ensures.ok

pub returns-in-ChildOf-clause-only : goal.returns-in-ChildOf-clause-only
returns-in-ChildOf-clause-only c =
    also-parents _ _ c.self.view_is c.args.link c.args.key (sym c.is_to_nothing.ensures ∙ c.if-is_to_nothing.false) c.in-ChildOf.x c.in-ChildOf.is _
    (had-put tie_total tie_exact c.put.result _ _ (c.in-ChildOf.x, c.args.key) tt c.put.ensures.ok c.put.ensures.err)

pub returns-in-Within-clause-only : goal.returns-in-Within-clause-only
returns-in-Within-clause-only c =
    also-locations _ _ c.self.view_is c.args.link c.args.key (sym c.is_to_nothing.ensures ∙ c.if-is_to_nothing.false) c.in-Within.x c.in-Within.is _
    (had-put tie_total tie_exact c.put-in-Within.result _ _ (c.in-Within.x, c.args.key) tt c.put-in-Within.ensures.ok c.put-in-Within.ensures.err)

pub returns-in-Player-clause-only : goal.returns-in-Player-clause-only
returns-in-Player-clause-only c =
    also-players _ _ c.self.view_is c.args.link c.args.key (sym c.is_to_nothing.ensures ∙ c.if-is_to_nothing.false) c.in-Player.is _
    (had-put object_total object_exact c.put-in-Player.result _ _ c.args.key tt c.put-in-Player.ensures.ok c.put-in-Player.ensures.err)
