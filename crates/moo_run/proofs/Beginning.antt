-- The world that a task begins with.
use Rattle.moo_run.{proofs.Words.{◌≡◌, ◌⊎◌, inl, inr, ℕ, List, Option, Some, IfSome, codes, refl, sym, ap, subst, subst₂, HasCleanDisk, Place, Done, StopsTask, Reports, ◌<◌, true, false, bytes_eq, true≢false, cases_Bool, Maps, opening_maps, state_of, IsHeld, Moment, rows_alone, Task, Given, Run, begins_anew, is_load, dump_word, is_input, reads_input, ReadsFile, BeginsWith, RunsFrom, RunsMade, RefusesDump, Failure, ◌≢◌, ◌≤◌, length, None, ◌∙◌, arith, State, read_failure, load_failure, NoBatches, OutOfMemory, Read}}
use Rattle.sqlite.specs.State.{State as Database}
use Rattle.moo_dump.specs.Dump.{dump as dump_of}
use Rattle.moo_load.specs.RowsOf.{AreRowsOf}
use Rattle.moo_cli.{specs.declared.task.Action.{Action}, specs.declared.task.Action.TheVariants.{Load}, specs.Tasks.{text_word}}
use Rattle.moo_text.specs.declared.lines.TheConstants.{LONGEST_TEXT}
use Rattle.moo_load.{specs.declared.input.InputFault.{InputFault}, specs.declared.fault.LoadFault.{LoadFault}}
use Rattle.moo_load.specs.declared.input.InputFault.TheVariants as read_fault
use Rattle.moo_load.specs.declared.fault.LoadFault.TheVariants as load_fault

pub begins_opening : (action : Action) (text : List ℕ → Option (List ℕ)) → is_load action ≡ false → BeginsWith action text opening_maps
begins_opening (Load dump) text other = absurd (true≢false other)
begins_opening action text other = refl

pub begins_dumped : (action : Action) (text : List ℕ → Option (List ℕ)) (dump : List ℕ) (rows : Maps) → is_load action ≡ true → dump_word action ≡ dump → IfSome (text dump) (λ bytes. dump_of (state_of rows) ≡ bytes) → IsHeld (state_of rows) → AreRowsOf (state_of rows) rows → BeginsWith action text rows
begins_dumped (Load word) text dump rows loads is it held numbered = (subst (λ w. IfSome (text w) (λ bytes. dump_of (state_of rows) ≡ bytes)) (sym is) it, held, numbered)
begins_dumped action text dump rows loads is it held numbered = absurd (true≢false (sym loads))

-- a task on `:memory:` begins with a new world
pub memory_begins : (task : Task) → bytes_eq task.file.now (codes ":memory:") ≡ true → begins_anew task ≡ true
memory_begins task is = grind arith

-- what it reads besides its file is the word for its dump
pub load_reads : (action : Action) (dump : List ℕ) → is_load action ≡ true → dump_word action ≡ dump → text_word action ≡ Some dump
load_reads (Load word) dump loads is = ap Some is
load_reads action dump loads is = absurd (true≢false (sym loads))

-- its files may be read of a host that is as it was
pub reads_on : {H : Type 0} (may : H → List ℕ → Type 0) (old new : H) → new ≡ old → (task : Task) → ((path : List ℕ) → ReadsFile task path → may old path) → (path : List ℕ) → ReadsFile task path → may new path
reads_on may old new same task it path reads = subst (λ host. may host path) (sym same) (it path reads)

pub keeps_input : (task : Task) (dump : List ℕ) → is_load task.action ≡ true → dump_word task.action ≡ dump → reads_input task ≡ false → bytes_eq dump (codes "-") ≡ false
keeps_input task dump loads is other = subst (λ word. is_input word ≡ false) (load_reads task.action dump loads is) other

-- what comes after a load reads no text
others_write : (action : Action) → is_load action ≡ true → (m : Moment) (end : Place) (Clean : Type 0) (run : Run) (others : Given)
    → Done action m end run ⊎ ((failure : Failure) × (between : Option (List ℕ)) × StopsTask action m end failure Clean (record run { after = between }) × Reports failure between run.after run.status)
    → Done action m end (record run { given = others }) ⊎ ((failure : Failure) × (between : Option (List ℕ)) × StopsTask action m end failure Clean (record run { given = others; after = between }) × Reports failure between run.after run.status)
others_write (Load dump) loads m end Clean run others it = it
others_write action loads m end Clean run others it = absurd (true≢false (sym loads))

abbrev of_others : (task : Task) → is_load task.action ≡ true → (m : Moment) (run : Run) (others : Given) (Clean : Type 0) → (run.given.ports.rests → others.ports.rests) → RunsFrom task m run Clean → RunsFrom task m (record run { given = others }) Clean
of_others task loads m run others Clean on it = record { end = it.end; good = it.good; leads = it.leads; rests = λ other. on (it.rests other); writes = others_write task.action loads m it.end Clean run others it.writes }

-- after a new world's rows were found, the input is as it was, or the task reads no text
pub made_since : {I H W : Type 0} (given : I → H → H → Given) (contents : W → Option (List ℕ)) (store : Database) (task : Task) (rows : Maps) (was now : I) (old host last : H) (before mid : W) (new : Option (List ℕ)) (status : ℕ)
    → (is_load task.action ≡ false → now ≡ was) → host ≡ old → mid ≡ before → ((given now old last).ports.rests → (given was old last).ports.rests)
    → RunsMade store task rows (record { given = given now host last; before = contents mid; after = new; status = status })
    → RunsMade store task rows (record { given = given was old last; before = contents before; after = new; status = status })
made_since given contents store task rows was now old host last before mid new status other same unwritten on it =
    let run : Run = record { given = given now old last; before = contents before; after = new; status = status } in
    let here : RunsMade store task rows run = subst₂ (λ host output. RunsMade store task rows (record { given = given now host last; before = contents output; after = new; status = status })) same unwritten it in
    elim (cases_Bool (is_load task.action)) [
      | inl loads ↦ (
        of_others task loads (rows_alone rows) run (given was old last) ⊥ on here.0,
        λ clean.
            let ran = here.1 clean in
            (ran.0, ran.1, (of_others task loads ran.0 run (given was old last) (HasCleanDisk store) on ran.2.0, ran.2.1)),
      )
      | inr none ↦ subst (λ input. RunsMade store task rows (record { given = given input old last; before = contents before; after = new; status = status })) (other none) here
    ]

-- ---- why a dump gives no world

-- what is said of any text
of_any : (text : Option (List ℕ)) (P : List ℕ → Type 0) → ((bytes : List ℕ) → P bytes) → IfSome text P
of_any None P each = tt
of_any (Some bytes) P each = each bytes

pub no_file : (text : Option (List ℕ)) → RefusesDump text NoBatches
no_file text = (tt, of_any text _ (λ bytes s held same short. tt))

-- its text can't be read
pub unread : (text : Option (List ℕ)) (fault : InputFault) (failure : Failure) → failure ≡ read_failure fault → (fault ≡ read_fault.TooLong → IfSome text (λ bytes. LONGEST_TEXT < length bytes)) → RefusesDump text failure
unread text read_fault.Read failure is long = subst (RefusesDump text) (sym is) (tt, of_any text _ (λ bytes s held same short. tt))
unread text read_fault.OutOfMemory failure is long = subst (RefusesDump text) (sym is) (tt, of_any text _ (λ bytes s held same short. tt))
unread None read_fault.TooLong failure is long = subst (RefusesDump None) (sym is) (tt, tt)
unread (Some bytes) read_fault.TooLong failure is long = subst (RefusesDump (Some bytes)) (sym is) (tt, λ s held same short. absurd (omega (arith, long refl, short)))

module _ (bytes : List ℕ) (limit : length bytes ≤ LONGEST_TEXT) where
  -- its text is no dump
  pub no_dump : (text : Option (List ℕ)) (fault : LoadFault) (failure : Failure) → failure ≡ load_failure fault → IfSome text (λ all. bytes ≡ all)
      → (fault ≢ load_fault.OutOfMemory → length bytes < 4294967295 → (s : State) → IsHeld s → dump_of s ≢ bytes) → RefusesDump text failure
  no_dump text load_fault.OutOfMemory failure is whole complete = subst (RefusesDump text) (sym is) (tt, of_any text _ (λ all s held same short. tt))
  no_dump None fault failure is whole complete = subst (RefusesDump None) (sym is) (tt, tt)
  no_dump (Some all) fault failure is whole complete = subst (RefusesDump (Some all)) (sym is) (tt, λ s held same short. absurd (complete (λ e. cc) (omega (arith, limit)) s held (same ∙ sym whole)))

-- what is wrong with a text that was opened isn't that its file can't be opened
pub input_opened : (fault : InputFault) (failure : Failure) → failure ≡ read_failure fault → failure ≢ NoBatches
input_opened read_fault.Read failure is e = let bad : Read ≡ NoBatches = sym is ∙ e in cc
input_opened fault failure is e = let bad : read_failure fault ≡ NoBatches = sym is ∙ e in cc

pub dump_opened : (fault : LoadFault) (failure : Failure) → failure ≡ load_failure fault → failure ≢ NoBatches
dump_opened load_fault.OutOfMemory failure is e = let bad : OutOfMemory ≡ NoBatches = sym is ∙ e in cc
dump_opened fault failure is e = let bad : load_failure fault ≡ NoBatches = sym is ∙ e in cc
