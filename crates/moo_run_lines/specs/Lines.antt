-- The lines that the program writes beside replies and dumps, and the statuses.
use Rattle.std.specs.{Prelude.{◌≡◌, ◌⊎◌, ℕ, List, [], ◌++◌, take, Option, codes}, Fmt.{decimal}, Io.KnownBytes.{Appends}}
use Rattle.sqlite.specs.declared.error.Error.TheVariants.{SqliteFailure}
use Rattle.sqlite.specs.declared.error.ErrorCode.TheVariants as code
use Rattle.moo_damage.specs.Words.{kind_text, key_text}
use Rattle.moo_text.specs.declared.fault.TextFault.{TextFault}
use Rattle.moo_text.specs.declared.fault.TextFault.TheVariants as text_fault
use Rattle.moo_store.specs.declared.fault.StoreFault.{StoreFault}
use Rattle.moo_store.specs.declared.fault.StoreFault.TheVariants as store_fault
use Rattle.moo_store.specs.declared.dumping.DumpFault.{DumpFault}
use Rattle.moo_store.specs.declared.dumping.DumpFault.TheVariants as dump_fault
use Rattle.moo_http.specs.declared.service.ServiceFault.{ServiceFault}
use Rattle.moo_http.specs.declared.service.ServiceFault.TheVariants as service_fault
use Rattle.moo_load.specs.declared.input.InputFault.{InputFault}
use Rattle.moo_load.specs.declared.input.InputFault.TheVariants as read_fault
use Rattle.moo_load.specs.declared.fault.LoadFault.{LoadFault}
use Rattle.moo_load.specs.declared.fault.LoadFault.TheVariants as load_fault
use Rattle.moo_run_lines.specs.declared.failure.Failure.{Failure}
use Rattle.moo_run_lines.specs.declared.failure.Failure.TheVariants.{Usage, NoFile, Store, Damaged, NewerVersion, NotADump, NoBatches}
use Rattle.moo_run_lines.specs.declared.failure.Failure.TheVariants.{Read, Write, TooLong, Port, OutOfMemory}

-- ---- failures

-- the line of a failure, without the kind and the place of a damage; a failure of the writer has no line
abbrev pub word_of : Failure → List ℕ
word_of Usage = codes "moo: usage\n"
word_of NoFile = codes "moo: store fault\n"
word_of (Store error) = codes "moo: store fault\n"
word_of (Damaged kind key) = codes "moo: damaged\n"
word_of NewerVersion = codes "moo: newer version\n"
word_of (NotADump line) = codes "moo: not a dump\n"
word_of NoBatches = codes "moo: read fault\n"
word_of Read = codes "moo: read fault\n"
word_of Write = []
word_of TooLong = codes "moo: input too long\n"
word_of Port = codes "moo: cannot listen\n"
word_of OutOfMemory = codes "moo: no memory\n"

-- the exit status of a failure
abbrev pub status_of : Failure → ℕ
status_of Usage = 2
status_of (Damaged kind key) = 3
status_of NewerVersion = 3
status_of (NotADump line) = 3
status_of OutOfMemory = 4
status_of failure = 1

-- the failure of a run whose text of batches stopped at this fault
abbrev pub text_failure : TextFault → Failure
text_failure text_fault.Read = Read
text_failure text_fault.Write = Write
text_failure text_fault.OutOfMemory = OutOfMemory
text_failure text_fault.Long = TooLong

-- the failure of a run whose world couldn't be made or opened, or whose store failed
abbrev pub store_failure : StoreFault → Failure
store_failure (store_fault.Store error) = Store error
store_failure (store_fault.Damaged kind key) = Damaged kind key
store_failure store_fault.NewerVersion = NewerVersion
store_failure store_fault.OutOfMemory = OutOfMemory
store_failure store_fault.Closed = Store (SqliteFailure code.Closed)

-- The failure tells of this fault of making or opening a world. A missing file is told apart, for what is said on standard error.
abbrev pub Tells : StoreFault → Failure → Type 0
Tells fault failure =
    (failure ≡ store_failure fault) ⊎ ((store_failure fault ≡ Store (SqliteFailure code.CannotOpen)) × (failure ≡ NoFile))

-- the failure of a run whose dump stopped at this fault
abbrev pub dump_failure : DumpFault → Failure
dump_failure dump_fault.Write = Write
dump_failure dump_fault.OutOfMemory = OutOfMemory
dump_failure dump_fault.Closed = Store (SqliteFailure code.Closed)

-- the failure of a run whose service stopped at this fault
abbrev pub service_failure : ServiceFault → Failure
service_failure service_fault.Port = Port
service_failure service_fault.Write = Write
service_failure service_fault.OutOfMemory = OutOfMemory

-- the failure of a run that couldn't read the text of a dump
abbrev pub read_failure : InputFault → Failure
read_failure read_fault.Read = Read
read_failure read_fault.TooLong = TooLong
read_failure read_fault.OutOfMemory = OutOfMemory

-- the failure of a run that couldn't make the world of a dump
abbrev pub load_failure : LoadFault → Failure
load_failure (load_fault.NotADump line why) = NotADump line
load_failure (load_fault.Damaged kind key) = Damaged kind key
load_failure load_fault.OutOfMemory = OutOfMemory

-- The line is written, and this status answered. Or the writer fails on the way: the beginning of the line is written, and the status is
-- that of a failed writer.
abbrev pub WritesLine : List ℕ → ℕ → Option (List ℕ) → Option (List ℕ) → ℕ → Type 0
WritesLine line known old new status =
    (Appends old new line × (status ≡ known))
    ⊎ ((count : ℕ) × Appends old new (take count line) × (status ≡ status_of Write))

-- The line of a failure is written with its status. If memory is refused for the line of a damage, or of a text that isn't a dump, that is
-- said in its place.
abbrev pub Reports : Failure → Option (List ℕ) → Option (List ℕ) → ℕ → Type 0
Reports (Damaged kind key) old new status =
    WritesLine (codes "moo: damaged " ++ (kind_text kind ++ (codes " " ++ (key_text key ++ codes "\n")))) 3 old new status
    ⊎ WritesLine (word_of OutOfMemory) (status_of OutOfMemory) old new status
Reports (NotADump line) old new status =
    WritesLine (codes "moo: not a dump, line " ++ (decimal line ++ codes "\n")) 3 old new status
    ⊎ WritesLine (word_of OutOfMemory) (status_of OutOfMemory) old new status
Reports failure old new status = WritesLine (word_of failure) (status_of failure) old new status

-- ---- what is done

-- the line that `moo load` writes of the world that it made: its number, and how many objects it has
abbrev pub loaded_line : ℕ → ℕ → List ℕ
loaded_line seq objects = codes "loaded seq " ++ (decimal seq ++ (codes " objects " ++ (decimal objects ++ codes "\n")))

-- the line that `moo check` writes of a whole world: its number, and how many objects it has
abbrev pub checked_line : ℕ → ℕ → List ℕ
checked_line seq objects = codes "ok seq " ++ (decimal seq ++ (codes " objects " ++ (decimal objects ++ codes "\n")))
