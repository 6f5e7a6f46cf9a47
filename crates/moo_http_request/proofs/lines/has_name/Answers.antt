use Rattle.moo_http_request.{proofs.Words.{◌∙◌, ap, map, bytes_eq}, proofs.LineLemmas.{same_test}}
use Rattle.moo_http_request.proofs.lines.has_name.Goals as goal
use Rattle.std.specs.Char.{to_ascii_lowercase}

pub returns : goal.returns
returns c =
    same_test c.eq_ignore_ascii_case.result _ _ c.eq_ignore_ascii_case.ensures.test
    ∙ ap (λ text. bytes_eq (map to_ascii_lowercase text) (map to_ascii_lowercase c.args.name.now)) c.of.ensures
