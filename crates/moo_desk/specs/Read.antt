-- What reads gave, and why nothing more is read of a request.
use Rattle.std.specs.{Prelude.{◌≡◌, ◌≢◌, ◌<◌, ◌-◌, ◌*◌, ℕ, ⊤, Option, Some, None, Result, Ok, Err}, Duration.{as_nanos}}
use Rattle.std.specs.{IoError.{error_kind}, declared.io.Error.{Error}, declared.io.ErrorKind.TheVariants.{WouldBlock}}
use Rattle.std.specs.declared.time.Duration.{Duration}
use Rattle.moo_arrivals.specs.declared.cause.Cause.{Cause}
use Rattle.moo_arrivals.specs.declared.cause.Cause.TheVariants.{BrokenOff, Silent, Late, Crowded, OutOfMemory}
use Rattle.moo_http_request.specs.declared.head.TheConstants.{MAX_HEAD}
use Rattle.moo_desk.specs.{declared.gathered.Coming.{Coming}, declared.gathered.Coming.TheVariants.{More, Nothing, Unread}}
use Rattle.moo_desk.specs.{declared.held.TheConstants.{GRACE}, declared.slot.TheConstants.{SILENCE, PATIENCE}}

-- what a read gives: how many bytes, or an error
abbrev pub Gave : Type 0
Gave = Result ℕ Error

-- How many bytes of a request are taken at most: as many as it has, if that is known, or 8,192 while its head isn't whole.
abbrev pub limit_of : Option ℕ → ℕ
limit_of (Some total) = total
limit_of None = MAX_HEAD

-- more than so many nanoseconds went by between two times
abbrev pub IsLonger : ℕ → Duration → Duration → Type 0
IsLonger nanos from to = nanos < as_nanos to - as_nanos from

module _ {R : Type 0} (reads : R → Gave → R → Type 0) where
  -- the last read of this reader gave this
  abbrev pub LastGave : Gave → R → Type 0
  LastGave gave last = (before : R) × reads before gave last

  -- the last read of it found nothing there yet
  abbrev pub HasFoundNothing : R → Type 0
  HasFoundNothing last = (error : Error) × (error_kind error ≡ WouldBlock) × LastGave (Err error) last

  -- the last read of it failed
  abbrev pub HasFailedToRead : R → Type 0
  HasFailedToRead last = (error : Error) × (error_kind error ≢ WouldBlock) × LastGave (Err error) last

  -- When a request may be given up for a cause. It came, and bytes of it came last, at these times, and it is the third one now.
  abbrev pub MayGiveUp : R → (since heard now : Duration) → Cause → Type 0
  MayGiveUp last since heard now BrokenOff = HasFailedToRead last
  MayGiveUp last since heard now Silent = IsLonger (SILENCE * 1_000_000_000) heard now
  MayGiveUp last since heard now Late = IsLonger (PATIENCE * 1_000_000_000) since now
  MayGiveUp last since heard now Crowded = IsLonger (GRACE * 1_000_000) since now
  MayGiveUp last since heard now OutOfMemory = ⊤

  -- Why nothing more comes of a request: its peer has ended, or it was given up.
  abbrev pub MayStop : R → (since heard looked : Duration) → Cause → Coming → Type 0
  MayStop last since heard looked cause More = ⊤
  MayStop last since heard looked cause Nothing = LastGave (Ok 0) last
  MayStop last since heard looked cause Unread = MayGiveUp last since heard looked cause
