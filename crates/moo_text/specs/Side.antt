-- The reader's side of a text.
use Rattle.std.specs.Prelude.{◌≡◌, ◌+◌, ℕ, Bool, true, false, List, [], length, Option, ⊤}
use Rattle.moo_text.specs.{declared.lines.LineReader.{LineReader}, declared.feed.Feed.{Feed}, declared.next.Next.{Next}}
use Rattle.moo_text.specs.declared.next.Next.TheVariants.{Batch as Whole, Malformed, Truncated, End}

-- the bytes that the reader will give, if it tells them; how many may still be read; whether the reader has given no bytes, so that
-- it isn't read again; and the bytes that it gave and that are not used yet
pub record Side : Type 0 where
  pub left : Option (List ℕ)
  pub room : ℕ
  pub ended : Bool
  pub ahead : List ℕ

-- nothing is read yet
abbrev pub untouched : Option (List ℕ) → ℕ → Side
untouched left room = record { left = left; room = room; ended = false; ahead = [] }

-- the reader's side of what reads the lines of a text
abbrev pub lines_side : {R : Type 0} → (R → Option (List ℕ)) → LineReader R → Side
lines_side remaining lines = record { left = remaining lines.reader; room = lines.room; ended = lines.ended; ahead = lines.ahead }

-- the reader's side of what reads the batches of a text
abbrev pub feed_side : {R : Type 0} → (R → Option (List ℕ)) → Feed R → Side
feed_side remaining feed = lines_side remaining feed.lines

-- how many bytes may still be taken, those that are read ahead among them
abbrev pub lines_room : {R : Type 0} → LineReader R → ℕ
lines_room lines = length lines.ahead + lines.room

-- how many bytes may still be taken of the batches of a text
abbrev pub feed_room : {R : Type 0} → Feed R → ℕ
feed_room feed = lines_room feed.lines

-- the reader has given no bytes, and all that it gave before are used
abbrev pub IsOver : Side → Type 0
IsOver side = (side.ended ≡ true) × (side.ahead ≡ [])

-- after the end of a text, and after a batch that the end cuts off, nothing is left
abbrev pub EndsAt : Next → Side → Type 0
EndsAt End side = IsOver side
EndsAt Truncated side = IsOver side
EndsAt (Whole batch) side = ⊤
EndsAt (Malformed number) side = ⊤
