-- The task that words name, by the matches of the program's command.
use Rattle.std.specs.Prelude.{◌≡◌, ◌<◌, ◌≤◌, ◌⊎◌, ℕ, Bool, false, List, [], Option, Some, None, MatchOption, codes, length, ⊤}
use Rattle.std.specs.{Int.{IsInRange}, Option.{option_map_or}, Str.{bytes_eq}, Str.Parse.{IsNumeral, digits_value, without_leading_plus}}
use Rattle.clap.specs.{Walk.{Row, Text, first_of, one_of}, Simple.{subcommand_of}, Kinds.{Kinds, HasKind}, Faults.{fault_of}}
use Rattle.moo_cli.specs.{Commands.{moo_app}, declared.task.Task.{Task}, declared.task.Batches.{Batches}, declared.task.Options.{Options}}
use Rattle.moo_cli.specs.{declared.task.Service.{Service}, declared.task.Action.{Action}}
use Rattle.moo_cli.specs.declared.task.Action.TheVariants.{Init, Apply, Rehearse, Ask, Dump, Load, Check, Serve}
use Rattle.moo_cli.specs.{declared.task.Usage.{Usage}, declared.task.Usage.TheVariants.{Refused, Absent}}

-- the argument of that name is this text
abbrev pub HasText : List Row → Text → Text → Type 0
HasText rows id text = first_of id rows ≡ Some text

-- the flag of that name is given
abbrev pub is_set : Text → List Row → Bool
is_set id rows = option_map_or (λ text. bytes_eq text (codes "true")) (first_of id rows) false

-- which batches are run, by the arguments: those of the text that is named, and they stop if the flag is given
abbrev pub AreBatches : List Row → Batches → Type 0
AreBatches rows batches = HasText rows (codes "BATCHES") batches.path.now × (batches.options.stop ≡ is_set (codes "stop") rows)

-- the argument of that name is read as digits with this value
abbrev pub HasNumber : List Row → Text → ℕ → Type 0
HasNumber rows id n =
    (text : Text) × (one_of id rows ≡ Some text)
    × IsNumeral 10 (without_leading_plus text) × (digits_value 10 (without_leading_plus text) ≡ n)

-- the argument of that name is read as digits with this value within bounds, or it isn't there, and this is the value then
abbrev pub HasNumberOr : List Row → Text → ℕ → ℕ → ℕ → ℕ → Type 0
HasNumberOr rows id least most absent n =
    (HasNumber rows id n × IsInRange least most n) ⊎ ((first_of id rows ≡ None) × (n ≡ absent))

-- what `serve` is told: a port, how many connections are served, and how many ticks a request has
abbrev pub IsService : List Row → Service → Type 0
IsService rows service =
    HasNumber rows (codes "PORT") service.port × IsInRange 1 65535 service.port
    × HasNumberOr rows (codes "COUNT") 0 1000000 4294967295 service.count
    × HasNumberOr rows (codes "ticks") 1000 4294967295 4000000 service.ticks

-- the command of an action
abbrev pub command_of : Action → Text
command_of Init = codes "init"
command_of (Apply batches) = codes "apply"
command_of (Rehearse batches) = codes "rehearse"
command_of (Ask batches) = codes "ask"
command_of Dump = codes "dump"
command_of (Load dump) = codes "load"
command_of Check = codes "check"
command_of (Serve service) = codes "serve"

-- the arguments of an action's command, beside the file, are those of the action
abbrev pub HasArguments : List Row → Action → Type 0
HasArguments rows (Apply batches) = AreBatches rows batches
HasArguments rows (Rehearse batches) = AreBatches rows batches
HasArguments rows (Ask batches) = HasText rows (codes "BATCHES") batches.now
HasArguments rows (Load dump) = HasText rows (codes "DUMP") dump.now
HasArguments rows (Serve service) = IsService rows service
HasArguments rows action = ⊤

-- the task is that of a command's name and matches
abbrev pub IsTask : Text × List Row → Task → Type 0
IsTask (name, rows) task = HasText rows (codes "FILE") task.file.now × (name ≡ command_of task.action) × HasArguments rows task.action

-- the word for the batches or the dump that an action reads
abbrev pub text_word : Action → Option Text
text_word (Apply batches) = Some batches.path.now
text_word (Rehearse batches) = Some batches.path.now
text_word (Ask batches) = Some batches.now
text_word (Load dump) = Some dump.now
text_word action = None

-- how an action runs batches, if it runs any
abbrev pub options_of : Action → Option Options
options_of (Apply batches) = Some batches.options
options_of (Rehearse batches) = Some batches.options
options_of action = None

-- what `serve` is told, if that is the action
abbrev pub service_of : Action → Option Service
service_of (Serve service) = Some service
service_of action = None

-- What a task asks for: a command, its file, and its text (batches or a dump), how it runs batches, or what `serve` is told, if the
-- command has these.
pub record Request : Type 0 where
  pub command : Text
  pub file : Text
  pub text : Option Text
  pub options : Option Options
  pub service : Option Service

-- what a task asks for, as a request
abbrev pub request_of : Task → Request
request_of task = record {
  command = command_of task.action;
  file = task.file.now;
  text = text_word task.action;
  options = options_of task.action;
  service = service_of task.action;
}

-- the task of the program's name alone: it runs the batches of standard input on a new world, and they don't stop
abbrev pub IsDefault : Task → Type 0
IsDefault task =
    (task.file.now ≡ codes ":memory:") × (batches : Batches) × (task.action ≡ Apply batches)
    × (batches.path.now ≡ codes "-") × (batches.options.stop ≡ false)

-- what is wrong with the words, by clap's rules for the program: the kinds of error that they give, help and the version among these;
-- the list is empty if they are those of a command
unfoldable pub mistakes : List Text → Kinds
mistakes words = fault_of moo_app words

-- the task that the words name, the program's name first
abbrev pub NamesTask : List Text → Task → Type 0
NamesTask words task =
    ((length words ≤ 1) × IsDefault task)
    ⊎ ((1 < length words) × (mistakes words ≡ [])
    × (found : Text × List Row) × (subcommand_of moo_app words ≡ Some found) × IsTask found task)

-- any task that the words name asks for what this one does
abbrev pub NamesAlone : List Text → Task → Type 0
NamesAlone words task = (other : Task) → NamesTask words other → request_of other ≡ request_of task

-- the words name no task
abbrev pub NamesNone : List Text → Type 0
NamesNone words = (task : Task) → ¬ (NamesTask words task)

-- The words are refused: they have a mistake of this kind, or memory ran out. Absent says that they have no mistake, and yet name no task.
abbrev pub IsRefusal : List Text → Usage → Type 0
IsRefusal words (Refused error) = HasKind (mistakes words) error
IsRefusal words Absent = (mistakes words ≡ []) × NamesNone words

-- what was found fits; or nothing was found, and nothing fits
abbrev pub IsAny : {T : Type 0} → (T → Type 0) → Option T → Type 0
IsAny Fits found = MatchOption found ((x : _) → ¬ (Fits x)) Fits
