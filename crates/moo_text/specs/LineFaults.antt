-- What the fault of a line says of the bytes that it points at.
use Rattle.std.specs.Prelude.{◌≡◌, ◌≢◌, false, None, codes, ⊤}
use Rattle.moo_value.specs.{Fault.{HasFault}, Reading.{after_mark, word}}
use Rattle.moo_world.specs.{Objects.{same_text}, Names.{call_name_of}}
use Rattle.moo_text.specs.{Line.{is_all_blank}, LineReading.{object_of}, declared.line_fault.LineFault.{LineFault}}
use Rattle.moo_text.specs.declared.line_fault.LineFault.TheVariants.{NoObject, NoAt, NoName, NoBracket, NoValue, NoMark, NoEnd}

-- the fault is true of the bytes that it points at: this word isn't an object, these bytes don't begin with a literal, and so on
abbrev pub Says : LineFault → Type 0
Says (NoObject here) = object_of here.now ≡ None
Says (NoAt here) = same_text here.now (codes "at") ≡ false
Says (NoName here) = call_name_of (word here.now) ≡ None
Says (NoBracket here) = call_name_of here.now ≢ None
Says (NoValue here fault) = HasFault here.now fault
Says (NoMark mark here) = (after_mark mark here.now ≡ None) × (after_mark 44 here.now ≡ None)
Says (NoEnd here) = is_all_blank here.now ≡ false
Says _ = ⊤
