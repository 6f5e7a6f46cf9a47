use Rattle.moo_store.{proofs.Words.{Option, sym, subst, arith, IfNone, TextFault, feed_side, feed_room, EndsAt, is_batch, is_lost_answer, says_accepted, CompletesUntil}, proofs.Going.{going_starts, going_on, going_through, halts_before, halts_inside, one_more, falls_at_turn}, proofs.Going.{accepted_on, at_first, ends_early, has_stopped, goes_on}}
use Rattle.moo_store.proofs.answering.answer_until.Goals as goal
use Rattle.moo_text.specs.Given.{BreaksOff, ReadsNext}

pub loop-item-init : goal.loop-item-init
loop-item-init g c = record {
  going = (going_starts c.new-feed.ensures.side c.new-tally.ensures.0 c.new-tally.ensures.1, λ e. tt);
  works = c.new-feed.ensures.fresh;
  batches = omega (arith, c.new-tally.ensures.0, c.new-feed.ensures.room);
  lost = omega (arith, c.new-tally.ensures.1, c.new-feed.ensures.room);
}

pub loop-item-preserved : goal.loop-item-preserved
loop-item-preserved g c =
    let answer = c.in-Ok-Some.answer in
    let it = rw c.in-Ok-Some.field-0-is at c.in-Ok-Some.ensures.answers in
    let falls = falls_at_turn g.A.Answering.answered c.loop-item.answering c.answer_and_note.new.answering c.in-Ok.item answer (feed_room c.loop-item.feed) (feed_room c.next_batch.new.self) it.0 c.in-Ok.ensures.falls in
    let was = c.loop-item.invariant.going in
    record {
      going = (
        going_on c.in-Ok.item answer was.0 c.in-Ok.ensures.next it.0 it.1 c.count.ensures.batches c.count.ensures.lost,
        λ stop. accepted_on was.0.answers answer (was.1 stop) (goes_on c.args.stop (says_accepted answer) c.stops_after.result c.stops_after.ensures c.if-stops_after.false stop),
      );
      works = c.in-Ok.ensures.works;
      batches = one_more (is_batch answer) _ _ _ _ c.loop-item.invariant.batches falls c.count.ensures.batches;
      lost = one_more (is_lost_answer answer) _ _ _ _ c.loop-item.invariant.lost falls c.count.ensures.lost;
    }

pub loop-item-preserved-else-stops_after : goal.loop-item-preserved-else-stops_after
loop-item-preserved-else-stops_after g c =
    let answer = c.in-Ok-Some.answer in
    let it = rw c.in-Ok-Some.field-0-is at c.in-Ok-Some.ensures.answers in
    let falls = falls_at_turn g.A.Answering.answered c.loop-item.answering c.answer_and_note.new.answering c.in-Ok.item answer (feed_room c.loop-item.feed) (feed_room c.next_batch.new.self) it.0 c.in-Ok.ensures.falls in
    let was = c.loop-item.invariant.going in
    record {
      going = (
        going_on c.in-Ok.item answer was.0 c.in-Ok.ensures.next it.0 it.1 c.count.ensures.batches c.count.ensures.lost,
        λ stop. accepted_on was.0.answers answer (was.1 stop) (goes_on c.args.stop (says_accepted answer) c.stops_after.result c.stops_after.ensures c.if-stops_after.false stop),
      );
      works = c.in-Ok.ensures.works;
      batches = one_more (is_batch answer) _ _ _ _ c.loop-item.invariant.batches falls c.count.ensures.batches;
      lost = one_more (is_lost_answer answer) _ _ _ _ c.loop-item.invariant.lost falls c.count.ensures.lost;
    }

pub loop-item-smaller : goal.loop-item-smaller
loop-item-smaller g c =
    let it = rw c.in-Ok-Some.field-0-is at c.in-Ok-Some.ensures.answers in
    falls_at_turn g.A.Answering.answered c.loop-item.answering c.answer_and_note.new.answering c.in-Ok.item c.in-Ok-Some.answer _ _ it.0 c.in-Ok.ensures.falls

pub returns-in-Err-answer_and_note : goal.returns-in-Err-answer_and_note
returns-in-Err-answer_and_note g c =
    let it = c.in-Err-answer_and_note.ensures.halts in
    let was = c.loop-item.invariant.going in
    (halts_inside c.in-Ok.item it.0 it.1 was.0 c.in-Ok.ensures.next it.2 it.3 it.4 it.5, was.1)

pub returns-in-Err : goal.returns-in-Err
returns-in-Err g c =
    let broke = subst (λ (f : Option TextFault). IfNone f (BreaksOff (feed_side g.R.Read.remaining c.loop-item.feed) (feed_side g.R.Read.remaining c.next_batch.new.self) c.in-Err.fault)) c.loop-item.invariant.works c.in-Err.ensures.cause in
    let was = c.loop-item.invariant.going in
    (halts_before was.0 broke, was.1)

pub returns-then-stops_after : goal.returns-then-stops_after
returns-then-stops_after g c =
    let answer = c.in-Ok-Some.answer in
    let it = rw c.in-Ok-Some.field-0-is at c.in-Ok-Some.ensures.answers in
    let was = c.loop-item.invariant.going in
    let stops = has_stopped c.args.stop (says_accepted answer) c.stops_after.result c.stops_after.ensures c.if-stops_after.true in
    (stops.0, ends_early (going_on c.in-Ok.item answer was.0 c.in-Ok.ensures.next it.0 it.1 c.count.ensures.batches c.count.ensures.lost) (at_first was.0.answers answer (was.1 stops.0) stops.1))

pub returns-in-Ok-None : goal.returns-in-Ok-None
returns-in-Ok-None g c =
    let text = g.R.Read.remaining c.args.reader in
    let before = g.W.Write.contents c.args.writer.now in
    let more = feed_side g.R.Read.remaining c.next_batch.new.self in
    let none = rw c.in-Ok-None.field-0-is at c.in-Ok-None.ensures.ends in
    let was = c.loop-item.invariant.going in
    let here : CompletesUntil g.A.Answering.answered c.args.stop c.args.answering.now c.loop-item.answering text before (g.W.Write.contents c.loop-item.writer) c.loop-item.tally.batches c.loop-item.tally.lost =
    (going_through was.0 (subst (ReadsNext (feed_side g.R.Read.remaining c.loop-item.feed) more) none.0 c.in-Ok.ensures.next) (subst (λ item. EndsAt item more) none.0 c.in-Ok.ensures.ends), was.1) in
    subst (λ w. CompletesUntil g.A.Answering.answered c.args.stop c.args.answering.now c.answer_and_note.new.answering text before (g.W.Write.contents w) c.loop-item.tally.batches c.loop-item.tally.lost) (sym none.2)
    (subst (λ now. CompletesUntil g.A.Answering.answered c.args.stop c.args.answering.now now text before (g.W.Write.contents c.loop-item.writer) c.loop-item.tally.batches c.loop-item.tally.lost) (sym none.1) here)
