use Rattle.moo_http_request.proofs.Words.{◌≡◌, drop, all_topics, with_topics}
use Rattle.moo_http_request.proofs.routes.add_topics.Given as goal

-- the topics that are left come to the same rows
abbrev pub invariant-loop-topic : goal.invariant-loop-topic
invariant-loop-topic l = with_topics (drop l.topic-index all_topics) l.router ≡ with_topics all_topics l.initial.router
