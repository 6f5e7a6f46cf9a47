use Rattle.moo_http_response.{proofs.Words.{sym, ◌∙◌, subst, IsUtf8}, proofs.Ascii.{text_utf8}}
use Rattle.moo_http_response.proofs.look_body.name_text.Goals as goal

pub unwrap-requires : goal.unwrap-requires
unwrap-requires c =
    c.from_utf8.ensures.succeeds (subst IsUtf8 (sym (c.in_ok-bytes.ensures.items ∙ c.bytes.ensures.value)) (text_utf8 c.args.name.now c.bytes.ensures.text))
