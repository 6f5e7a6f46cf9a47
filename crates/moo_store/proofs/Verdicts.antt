-- What a batch was judged, and where a World stands that committed none.
use Rattle.moo_store.{proofs.Words.{◌≡◌, ◌∙◌, Bool, true, false, [], ◌∷◌, refl, sym, Ghosts, Batch, Verdict, Accepted, judge, state_of, Reply, IsRun, reply_of, acknowledged, World, Maps, Moment, Place, Stands, MovesBy, RunsAt, ℕ, ◌<◌, List, Result, OnOk, arith, is_err, Value, nat_lt, if◌then◌else◌, State, Ran, NoRoom, Stale, is_due, last_seq, run_calls, verdict_of}, proofs.Moving.{moves_from}}
use borrow.Author.Tests.{ltb-true}
use Rattle.moo_store.specs.Place as place
use Rattle.moo_text.specs.declared.reply.Answer.TheVariants as answer
use Rattle.moo_text.specs.declared.reply.Reply.TheVariants as reply

pub not_both : {X : Type 0} (b : Bool) → b ≡ false → b ≡ true → X
not_both b p q = let no : true ≡ false = sym q ∙ p in absurd cc

-- a World that has failed is closed
pub closed_moves : {S : Type 0} (g : Ghosts S) (world : World S) (batch : Batch) → world.failed ≡ true → MovesBy g world world (λ from to. RunsAt from batch answer.Closed to)
closed_moves g world batch failed = record { clean = λ c. c; closed = λ shut. refl; goes = by }
  where
    by : (from : Place) → Stands g world from → (to : Place) × Stands g world to × RunsAt from batch answer.Closed to
    by (place.Works m) at = not_both world.failed at.failed failed
    by from at = (from, at, (refl, refl))

-- a batch that is judged so keeps a moment of these rows
pub refused_stays : (rows : Maps) (batch : Batch) (v : Verdict) → judge (state_of rows) batch ≡ v → acknowledged (batch ∷ []) (reply_of v ∷ []) ≡ [] → (m : Moment) → m.rows ≡ rows → RunsAt (place.Works m) batch (answer.Replied (reply_of v)) (place.Works m)
refused_stays rows batch v judged none m same = grind arith

-- and so does one that memory ran out for
pub no_room_stays : (rows : Maps) (batch : Batch) → IsRun (state_of rows) batch → (m : Moment) → m.rows ≡ rows → RunsAt (place.Works m) batch (answer.Replied reply.NoMemory) (place.Works m)
no_room_stays rows batch run m same = grind arith

-- so it keeps a World where it stands
pub still_moves : {S : Type 0} (g : Ghosts S) (world : World S) (batch : Batch) (given : Reply) → world.failed ≡ false
    → ((m : Moment) → m.rows ≡ world.rows.maps → RunsAt (place.Works m) batch (answer.Replied given) (place.Works m)) → MovesBy g world world (λ from to. RunsAt from batch (answer.Replied given) to)
still_moves g world batch given works stays = moves_from g world world (λ from to. RunsAt from batch (answer.Replied given) to) works (λ c. c) (λ m at. (place.Works m, at, stays m (sym (at.rows works))))

-- ---- what an accepted batch says of its state

pub when_ok : {T E P : Type 0} (r : Result T E) → false ≡ is_err r → OnOk r P → P
when_ok r e p = grind arith

-- the calls of an accepted batch are run, and its number is one that the tables hold
low_after : (seq : ℕ) (ran : Ran) (answers : List Value) (t : State) → seq < last_seq → verdict_of seq ran ≡ Accepted answers t → t.seq < 9223372036854775808
low_after seq ran answers t low e = grind arith

pub accepted_run : (s t : State) (batch : Batch) (answers : List Value) → judge s batch ≡ Accepted answers t → IsRun s batch × (t.seq < 9223372036854775808)
unfolding judge
accepted_run s t batch answers e = by (is_due batch.at s.seq) (nat_lt s.seq last_seq) refl refl e
  where
    by : (due room : Bool) → is_due batch.at s.seq ≡ due → nat_lt s.seq last_seq ≡ room → (if due then (if room then verdict_of s.seq (run_calls s batch.programmer batch.calls) else NoRoom 0) else Stale s.seq) ≡ Accepted answers t → IsRun s batch × (t.seq < 9223372036854775808)
    by true true due room e = let low = ltb-true s.seq last_seq room in ((due, low), low_after s.seq (run_calls s batch.programmer batch.calls) answers t low e)
    by due room is has e = absurd cc
