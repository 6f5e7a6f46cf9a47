use Rattle.moo_http_response.proofs.Words.{◌≡◌, ◌∙◌, ap, refl, rules, codes}
use Rattle.moo_http_response.proofs.respond.not_allowed_response.Goals as goal
use Rattle.moo_http_response.specs.Bodies.{error_body}
use Rattle.serde_json.specs.Written.{compact_text}
use Rattle.std.{proofs.Common.{Some}, specs.Prelude.{string_bytes}}

pub returns : goal.returns
returns c =
    let bytes : c.into_bytes.result.items ≡ string_bytes c.in_ok-body.body = search rules in
    let told = ap (λ why. compact_text (error_body why (codes "method not allowed"))) c.head_told-why.ensures in
    record { status = refl; allow = ap Some c.method_name.ensures; kind = refl; body = bytes ∙ c.in_ok-body.ensures ∙ told }
