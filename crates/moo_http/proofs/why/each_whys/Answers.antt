use Rattle.std.{proofs.Common.{get_or, take, subst}, proofs.lemmas.List.{take_more}}
use Rattle.moo_reasons.specs.Told.{TellsPlace}
use Rattle.moo_http.proofs.SeenAsked.{told-more}
use Rattle.moo_http.proofs.why.each_whys.Goals as goal

pub loop-reply-preserved : goal.loop-reply-preserved
loop-reply-preserved c =
    let replies = c.items-reply-items.result.now in
    let at = c.loop-reply.reply-index in
    let item = c.reply-item.result in
    let left = c.loop-reply.seen.seen.items in
    let rest = c.alone_why.new.seen.seen.items in
    let line = c.in_ok-alone_why.field-0 in
    let one = subst (λ reply. TellsPlace left reply line rest) c.reply-item.is c.in_ok-alone_why.ensures in
    rw (c.in_ok-push.ensures.items, take_more replies at item c.loop-reply-test.true)
    (told-more (take at replies) c.loop-reply.each.items (get_or replies at item) line c.args.seen.now.seen.items left rest c.loop-reply.invariant one)
