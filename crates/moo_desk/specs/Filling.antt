-- What came of gathering more of a request.
use Rattle.std.specs.{Prelude.{◌≡◌, ◌≢◌, ℕ, ⊤, Ok, Err}, IoError.{error_kind}, declared.io.Error.{Error}}
use Rattle.std.specs.declared.io.ErrorKind.TheVariants.{WouldBlock}
use Rattle.moo_arrivals.specs.{declared.cause.Cause.{Cause}, declared.cause.Cause.TheVariants.{BrokenOff, OutOfMemory}}
use Rattle.moo_desk.specs.{declared.gathered.Filled.{Filled}, declared.gathered.Filled.TheVariants.{Grew, Waits, Ended, Failed}}
use Rattle.moo_desk.specs.{declared.gathered.Gathered.{Gathered}, Read.{Gave}}

module _ {R : Type 0} (reads : R → Gave → R → Type 0) where
  -- the reader failed, or memory ran out
  abbrev pub FailsToFill : R → R → Cause → Type 0
  FailsToFill old new BrokenOff = (error : Error) × (error_kind error ≢ WouldBlock) × reads old (Err error) new
  FailsToFill old new OutOfMemory = ⊤
  FailsToFill old new other = ⊥

  -- The reader was read once, unless memory ran out, and what it gave is what is told: bytes came, none are there now, the peer has ended,
  -- or the read failed. If none came, what was gathered stays.
  abbrev pub Fills : Gathered R → Gathered R → Filled → Type 0
  Fills old new Grew = (count : ℕ) × reads old.reader (Ok count) new.reader
  Fills old new Waits =
      (new.bytes.items ≡ old.bytes.items) × ((error : Error) × (error_kind error ≡ WouldBlock) × reads old.reader (Err error) new.reader)
  Fills old new Ended = (new.bytes.items ≡ old.bytes.items) × reads old.reader (Ok 0) new.reader
  Fills old new (Failed cause) = (new.bytes.items ≡ old.bytes.items) × FailsToFill old.reader new.reader cause
