-- A change of one field of an object.
use Rattle.std.specs.Prelude.{Bool, true, not, ◌&&◌, ◌||◌}
use Rattle.moo_value.specs.declared.value.ObjNo.{ObjNo}
use Rattle.moo_rows.specs.declared.row.ObjRow.{ObjRow}
use Rattle.moo_world.specs.declared.change.Change.{Change}
use Rattle.moo_world.specs.declared.change.Change.TheVariants.{Name, Owner, Location, Player, Programmer, Wizard, Readable, Writable}
use Rattle.moo_world.specs.{declared.change.Change.TheVariants.{Fertile, Accept}, Arguments.{is_number, is_text}}
use Rattle.moo_world.specs.{Objects.{nothing, same_object}, Rights.{is_within}, World.{World, is_object, object_changed, accept_fits}}

-- a row with one field changed
abbrev pub changed : Change → ObjRow → ObjRow
changed (Name name) row = record row { name = name }
changed (Owner owner) row = record row { owner = owner }
changed (Location destination) row = record row { location = destination }
changed (Player on) row = record row { player = on }
changed (Programmer on) row = record row { programmer = on }
changed (Wizard on) row = record row { wizard = on }
changed (Readable on) row = record row { r = on }
changed (Writable on) row = record row { w = on }
changed (Fertile on) row = record row { f = on }
changed (Accept list) row = record row { accept = list }

-- the world with the row of an object changed
abbrev pub with_row : World → ObjNo → (ObjRow → ObjRow) → World
with_row world object change = object_changed world object (λ entry. record entry { row = change entry.row })

-- the world with one field of the row of an object changed
abbrev pub field_changed : World → ObjNo → Change → World
field_changed world object change = with_row world object (changed change)

-- The change leaves a well formed world: a location is #-1, or an object outside the one that is moved; a name is a text; owners, and the
-- at most 1,000 objects of an accept list, have numbers of 32 bits.
abbrev pub is_allowed_change : World → ObjNo → Change → Bool
is_allowed_change world object (Name name) = is_text name
is_allowed_change world object (Owner owner) = is_number owner
is_allowed_change world object (Location destination) =
    (is_object world destination || same_object nothing destination) && not (is_within world destination object)
is_allowed_change world object (Accept list) = accept_fits list
is_allowed_change world object change = true
