-- What a run is given beside its words and their file: texts, and what comes of the ports.
use Rattle.std.specs.{Prelude.{ℕ, List, Option, codes, if◌then◌else◌}, Str.{bytes_eq}}
use Rattle.std.specs.declared.io.Read as Reading
use Rattle.std.specs.declared.io.Write as Writing
use Rattle.moo_http.specs.Turns.{Attendance, attended_between}
use Rattle.moo_arrivals.specs.declared.arrivals.Arrivals as Arrivals
use Rattle.moo_http.specs.declared.ports.Ports as Ports
use Rattle.moo_run.specs.declared.host.BatchFiles as BatchFiles

-- `-` names the input, and any other word the file of that path
abbrev pub texts_by : Option (List ℕ) → (List ℕ → Option (List ℕ)) → List ℕ → Option (List ℕ)
texts_by input files batches = if bytes_eq batches (codes "-") then input else files batches

-- What a run is given: the text of each word for batches or a dump, if it is known, the files of batches or dumps that couldn't be opened,
-- the files of worlds that the host denied, and what came of the ports.
pub record Given : Type 1 where
  pub text : List ℕ → Option (List ℕ)
  pub lacks : List ℕ → Type 0
  pub denies : List ℕ → Type 0
  pub ports : Attendance

-- A run: what it is given, what was written before it and after it, and its status.
pub record Run : Type 1 where
  pub given : Given
  pub before : Option (List ℕ)
  pub after : Option (List ℕ)
  pub status : ℕ

module _ {I H T A R W : Type 0} (input : Reading.Ghosts I) (files : BatchFiles.Ghosts H T) (denies : H → List ℕ → Type 0)
    (ports : Ports.Ghosts H A R W) (source : Arrivals.Ghosts A R W) (reader : Reading.Ghosts R) (fails : R → R → Type 0)
    (writer : Writing.Ghosts W) where
  -- what a run is given by an input and a host, from what this was to what it is
  abbrev pub given_to : I → H → H → Given
  given_to from before after = record {
    text = texts_by (input.remaining from) (files.text before);
    lacks = files.lacks before;
    denies = denies before;
    ports = attended_between source reader fails writer ports before after;
  }
