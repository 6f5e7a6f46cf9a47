-- The words that proofs of this crate share.
pub use Rattle.std.proofs.Common.{Bool, List, None, Option, Some, [], ap, append-nil, append_assoc, arith, cond, drop, false, get_or, length, refl, rules, subst, sym, take, true, ℕ, ◌++◌, ◌+◌, ◌-◌, ◌<◌, ◌∙◌, ◌∷◌, ◌≡◌, ◌≤◌, ◌||◌}
pub use Rattle.std.specs.BTreeMap.{is_at}
pub use Rattle.std.specs.FinMap.{entries}
pub use Rattle.std.specs.Global.{Vec}
pub use Rattle.std.specs.Io.KnownBytes.{Appends}
pub use Rattle.std.specs.List.{AllByRecursion, filter, flat_map}
pub use Rattle.std.specs.Option.{option_map}
pub use Rattle.std.specs.Prelude.{codes, slice_get, unwrap_or}
pub use Rattle.std.proofs.lemmas.List.{length-drop, take-append-drop, take-append-le, take-take, take_all, take_at, take_rest}
pub use Rattle.std.proofs.lemmas.Result.{err_from_is_err_and}
pub use Rattle.moo_value.specs.declared.value.ObjNo.{ObjNo}
pub use Rattle.moo_rows.specs.Maps.{Maps, object_cmp}
pub use Rattle.moo_rows.specs.Walk.{objects_left, petitions_left}
pub use Rattle.moo_rows.specs.declared.row.ObjRow.{ObjRow}
pub use Rattle.moo_rows.specs.declared.row.PropId.{PropId}
pub use Rattle.moo_world.specs.Judge.{state_of}
pub use Rattle.moo_world.specs.Objects.{same_object, same_object-Decides}
pub use Rattle.moo_world.specs.Rows.{world_of}
pub use Rattle.moo_verbs.proofs.Entries.{Entry}
pub use Rattle.moo_verbs.proofs.Found.{walk}
pub use Rattle.moo_dump.specs.Difference.{PartAt, TellsDifference}
pub use Rattle.moo_dump.specs.Dump.{heading, object_lines, petition_line, verb_line}
unfoldable pub use Rattle.moo_dump.specs.Dump.{dump}
pub use Rattle.moo_dump.specs.Lines.{LeadsUp, SkipUp, ids_defined, ids_listed, objects_text, petitions_text, property_line_of, slot_line_of, slot_lines_over}
pub use Rattle.moo_dump.specs.Written.{AppendsFront}
pub use Rattle.moo_dump.specs.declared.comparing.CompareFault.{CompareFault}
