use Rattle.moo_http_request.{proofs.Words.{ap, ◌∙◌, all_topics, with_route, with_topics, codes}, specs.declared.asked.Mode.TheVariants.{Ask}, specs.declared.routes.Endpoint.TheVariants.{Batch, Each}}
use Rattle.moo_http_request.proofs.routes.add_routes.Goals as goal
use Rattle.std.proofs.lemmas.Result.{IfOk-equal}

pub returns : goal.returns
returns c =
    IfOk-equal c.add_topics.result c.add_topics.new.router _ _ c.add_topics.ensures
    (ap (with_topics all_topics) (c.in_ok-add_route-3.ensures ∙ ap (with_route (codes "/each") Each) (c.in_ok-add_route-2.ensures ∙ ap (with_route (codes "/ask") (Batch Ask)) c.in_ok-add_route.ensures)))
