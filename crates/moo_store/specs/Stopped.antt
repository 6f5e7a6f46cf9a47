-- Why the store stopped a World.
use Rattle.std.specs.Prelude.{◌≡◌, ◌≤◌, ⊤}
use Rattle.sqlite.specs.State.{State as Database}
use Rattle.moo_tables_rows.specs.Cause.{StopsChange}
use Rattle.moo_store.specs.{declared.fault.StoreFault.{StoreFault}, declared.fault.StoreFault.TheVariants.{Store}}

-- the count of the disk's calls that failed gets no lower, and the connection allows as many steps of SQL as before
pub record KeepsFaults (old new : Database) : Type 0 where
  pub faults : old.faults ≤ new.faults
  pub steps : new.step_limit ≡ old.step_limit

-- a fault of the store has one of the causes that stop any change
abbrev pub IsStopped : Database → Database → StoreFault → Type 0
IsStopped old new (Store error) = StopsChange old new error
IsStopped old new fault = ⊤
