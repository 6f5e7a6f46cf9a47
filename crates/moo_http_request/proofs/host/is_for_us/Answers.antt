use Rattle.moo_http_request.{proofs.Words.{rules, sym, ap, ◌∙◌, take_all, list_all, header_bytes}, specs.Hosts.{is_own_line}}
use Rattle.std.proofs.lemmas.List.Folds.{list_all-map, list_all_at}
use Rattle.moo_http_request.proofs.host.is_for_us.Goals as goal

pub returns-then-not-is_own_line : goal.returns-then-not-is_own_line
returns-then-not-is_own_line c =
    sym (list_all-map is_own_line (header_bytes c.args.bytes.now) c.args.lines.now
    ∙ list_all_at (λ line. is_own_line (header_bytes c.args.bytes.now line)) c.args.lines.now c.loop-line.line-index _ c.loop-line-test.true (sym c.is_own_line.ensures ∙ search rules))

pub returns : goal.returns
returns c =
    sym (list_all-map is_own_line (header_bytes c.args.bytes.now) c.args.lines.now
    ∙ ap (list_all (λ line. is_own_line (header_bytes c.args.bytes.now line))) (sym (take_all _ _ c.loop-line-test.false)) ∙ c.loop-line.invariant)
