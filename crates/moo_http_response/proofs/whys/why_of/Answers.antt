use Rattle.moo_http_response.proofs.{Words.{ap, sym, ◌∙◌}, EachLemmas.{why-at}}
use Rattle.std.specs.Prelude.{option_map, string_bytes}
use Rattle.moo_http_response.proofs.whys.why_of.Goals as goal

pub returns-in-Some : goal.returns-in-Some
returns-in-Some c =
    let found = c.in-Some.ensures.lookup in
    c.as_deref.ensures.value
    ∙ sym (why-at c.args.whys.now c.args.place c.in-Some.why.now found.3.0 ∙ ap (option_map string_bytes) (sym found.1))
