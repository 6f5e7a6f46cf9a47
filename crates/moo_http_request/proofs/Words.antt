-- The words that most proofs of this crate share.
pub use Rattle.std.proofs.Common.{Bool, Bor, List, None, Option, Some, [], add-one, ap, append-nil, append_assoc, arith, bytes_eq, codes, drop, drop-cons, false, get_or, inl, inr, length, length-append, length-drop, map, nat_le, option_map, refl, rules, subst, sym, take, take-append-drop, true, ℕ, ◌&&◌, ◌*◌, ◌++◌, ◌+◌, ◌-◌, ◌<◌, ◌∙◌, ◌∷◌, ◌≡◌, ◌≢◌, ◌≤◌, ◌⊎◌}
pub use Rattle.std.proofs.lemmas.Bool.Decides.{nat_tests}
pub use Rattle.std.proofs.lemmas.List.{drop-append-le, drop_all, get_or-map, length-map, take-append-le, take-map, take_all, take_at, take_more}
pub use Rattle.std.specs.Io.KnownBytes.{Consumes, IsAtEnd}
pub use Rattle.std.specs.List.{list_all}
pub use Rattle.std.specs.Prelude.{Err, IsTrue, Ok, OnErr, Result, max, option_and_then, slice_range, ◌↔◌}
pub use Rattle.httparse.proofs.GrammarLemmas.{print_request-append, request_unique}
pub use Rattle.httparse.specs.Grammar.{HasNoRequest, ReadsRequest, RequestHead, print_blank, print_request}
pub use Rattle.httparse.specs.Spans.{RequestOverflows, header_bytes}
pub use Rattle.moo_text.specs.LineReading.{call_of}
pub use Rattle.serde_json.specs.Data.{Data, string}
pub use Rattle.serde_json.specs.Find.{as_str}
pub use Rattle.serde_json.specs.View.{items_of, view}
pub use Rattle.moo_http_request.specs.Body.{BodyAsks, form_asked}
pub use Rattle.moo_http_request.specs.Calls.{Bad, Calls, Whole, calls_from, with_call}
pub use Rattle.moo_http_request.specs.Found.{HeadStands, IsClose, Lacks, ShowsHead}
pub use Rattle.moo_http_request.specs.Given.{Grows, TakesAtMost}
pub use Rattle.moo_http_request.specs.Plan.{asks_why, body_size, is_head, plan_by}
pub use Rattle.moo_http_request.specs.Questions.{all_topics}
pub use Rattle.moo_http_request.specs.Request.{IsSparing, PlanAsks, Receives, StopsReading, Takes, body, no_head, nothing, request, small}
pub use Rattle.moo_http_request.specs.Routes.{with_route, with_topics}
unfoldable pub use Rattle.moo_http_request.specs.Routes.{service_rows}
pub use Rattle.moo_http_request.specs.{Settled.{Settles}, Shape.{are_within, shape_of, texts_of}, declared.asked.Asked.{Asked}}
pub use Rattle.moo_http_request.specs.{declared.asked.Form.{Form}, declared.head.HeadSpans.{HeadSpans}, declared.plan.Plan.{Plan}}
pub use Rattle.moo_http_request.specs.{declared.plan.Plan.TheVariants.{Body, Decided}, declared.request.Received.TheVariants.{Request}}
pub use Rattle.moo_value.specs.Literal.{is_digit, value_after}
