use Rattle.moo_http_response.{proofs.Words.{◌≡◌, ◌++◌, [], ◌∙◌, rules, codes}, specs.Bytes.{allow_line, head_text, line_end}, proofs.HeadLemmas.{pieces_are}}
use Rattle.moo_http_response.proofs.response.print_head.Goals as goal
use Rattle.http.specs.StatusCode.{reason_phrase}
use Rattle.std.{specs.Prelude.{decimal, option_map, unwrap_or}, proofs.lemmas.Result.{IfOk-weaker}}

pub returns : goal.returns
unfolding head_text
returns c =
    let allowed = allow_line (option_map (λ method. method.now) c.args.allow) in
    let code : c.as_str.result.now ≡ decimal c.args.status = search rules in
    let length : c.as_str-2.result.now ≡ decimal c.args.size = search rules in
    let allow : c.as_str-3.result.now ≡ allowed = search rules in
    let typed = line_end ++ codes "content-type: " in
    let named = line_end ++ codes "content-length: " in
    let close = line_end ++ (codes "connection: close" ++ line_end) in
    IfOk-weaker c.concat.result _ _
    (λ text is.
    is ∙ (λ i. codes "HTTP/1.1 " ++ (code i ++ (codes " " ++ (c.reason.ensures i ++ (typed ++ (c.args.kind.now ++ (named ++ (length i ++ (close ++ (allow i ++ (line_end ++ [])))))))))))
    ∙ pieces_are (codes "HTTP/1.1 ") (decimal c.args.status) (codes " ") (unwrap_or (reason_phrase c.args.status) []) line_end (codes "content-type: ") c.args.kind.now (codes "content-length: ") (decimal c.args.size) (codes "connection: close") allowed)
    c.concat.ensures.ok
