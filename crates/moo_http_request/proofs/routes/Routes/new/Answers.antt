use Rattle.moo_http_request.{proofs.Words.{ap, ◌∙◌, all_topics, service_rows, with_route, with_topics, codes}, specs.declared.asked.Mode.TheVariants.{Run, Ask}, specs.declared.routes.Endpoint.TheVariants.{Batch, Each}}
use Rattle.moo_http_request.proofs.routes.Routes.new.Goals as goal

pub invariant_of-result : goal.invariant_of-result
unfolding service_rows
invariant_of-result c = record {
  known = ∣ c.in_ok-add_routes.ensures
      ∙ ap (λ rows. with_topics all_topics (with_route (codes "/each") Each (with_route (codes "/ask") (Batch Ask) (with_route (codes "/batch") (Batch Run) rows)))) c.new-router.ensures ∣₁;
}
