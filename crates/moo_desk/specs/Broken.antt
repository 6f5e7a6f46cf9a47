-- When a reader whose bytes are gathered fails.
use Rattle.std.specs.Prelude.{◌≡◌, ◌⊎◌, length}
use Rattle.moo_desk.specs.{declared.gathered.Gathered.{Gathered}, declared.gathered.Coming.TheVariants.{Unread}}

-- All that was gathered is read, and a read of the reader failed, or the request was given up, so that nothing more is read.
abbrev pub IsBroken : {R : Type 0} → (R → R → Type 0) → Gathered R → Gathered R → Type 0
IsBroken fails old new = (new.at ≡ length new.bytes.items) × (fails old.reader new.reader ⊎ (new.coming ≡ Unread))
