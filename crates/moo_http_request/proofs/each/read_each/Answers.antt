use Rattle.moo_http_request.{proofs.Words.{Bor, List, ℕ, [], ◌∷◌, ◌++◌, sym, ◌∙◌}, specs.Alone.{alone}}
use Rattle.moo_http_request.proofs.each.read_each.Goals as goal
use Rattle.std.proofs.lemmas.List.{map_more}

pub loop-text-preserved : goal.loop-text-preserved
loop-text-preserved c =
    c.in_ok-push.ensures.items
    ∙ (λ i. c.loop-text.invariant i ++ c.in_ok-read_alone.ensures i ∷ [])
    ∙ sym (map_more (λ (text : Bor (List ℕ)). alone c.args.programmer text.now) c.args.texts.now c.loop-text.text-index _ c.loop-text-test.true)
