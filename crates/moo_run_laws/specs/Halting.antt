-- A source that stops, by what it is made of.
use Rattle.std.specs.Prelude.{◌≡◌, ◌⊎◌, Option, Some, None}
use Rattle.moo_run_laws.specs.declared.connections.HaltingConnections.{HaltingConnections}

-- what a source that stops is made of
abbrev pub source_of : {A : Type 0} → Option (HaltingConnections A) → Option A
source_of (Some source) = Some source.inner
source_of None = None

-- A source that stops hands out what the source within does, or none.
abbrev pub HandsOut : {A C : Type 0} → (A → Option C → A → Type 0) → HaltingConnections A → Option C → HaltingConnections A → Type 0
HandsOut hands_out old handed new = hands_out old.inner handed new.inner ⊎ ((handed ≡ None) × (new ≡ old))
