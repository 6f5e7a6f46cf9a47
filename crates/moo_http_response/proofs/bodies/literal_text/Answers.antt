use Rattle.moo_http_response.{proofs.Words.{◌++◌, sym, ap, ◌∙◌, subst, IsUtf8, print}, proofs.Ascii.{print_utf8}}
use Rattle.moo_http_response.proofs.bodies.literal_text.Goals as goal

pub unwrap-requires : goal.unwrap-requires
unwrap-requires c =
    let whole = c.in_ok-print_literal.ensures.ok ∙ ap (λ bytes. bytes ++ print c.args.value.now) c.new-bytes.ensures.items in
    c.from_utf8.ensures.succeeds (subst IsUtf8 (sym whole) (print_utf8 c.args.value.now c.read_limits.ensures))
