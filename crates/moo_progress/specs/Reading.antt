-- When reading is told of, by the instants at which the clock is read.
use Rattle.std.specs.{Prelude.{◌≡◌, ℕ, ◌+◌, ◌≤◌}, Time.{instant_nanos}, declared.time.Instant.{Instant}}
use Rattle.moo_progress.specs.declared.reading.Run.{Run}

-- a run of reads that begins now, after this many changes of the files
abbrev pub IsBegun : Run → Instant → ℕ → Type 0
IsBegun run now changes = (run.changes ≡ changes) × (run.told ≡ now) × (run.looked ≡ now)

-- a read now belongs to the run: no file was changed since it began, and the clock was last read a minute ago at most
abbrev pub GoesOn : Run → Instant → ℕ → Type 0
GoesOn run now changes = (changes ≡ run.changes) × (instant_nanos now ≤ instant_nanos run.looked + 60_000_000_000)

-- a run of reads began, or was last told of, five seconds ago or more
abbrev pub IsDue : Run → Instant → Type 0
IsDue run now = instant_nanos run.told + 5_000_000_000 ≤ instant_nanos now
