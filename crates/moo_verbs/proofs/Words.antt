-- The words that most proofs of this crate share.
pub use Rattle.std.proofs.Common.{Bool, Equal, FitsSigned, Less, List, None, Option, Some, T, [], add-one, ap, append-nil, append_assoc, arith, cond, drop, eqb, false, inl, inr, length, length-append, map, not, refl, rules, subst, suc, sym, take, true, w32, zero, ℕ, ◌&&◌, ◌++◌, ◌+◌, ◌<◌, ◌||◌, ◌∙◌, ◌∷◌, ◌≡◌, ◌≢◌, ◌≤◌, ◌⊎◌}
pub use Rattle.std.proofs.lemmas.Bool.{and_parts, cases_eq, cases_lt, eq-eqb, eqb-true, false≢true, le-ltb, lt-ltb, ne_eqb, or_cases, or_right}
pub use Rattle.std.proofs.lemmas.Iterator.Consumers.{YieldsList-at, YieldsList-from_filter, YieldsList-from_first, nth_from_yields_List}
pub use Rattle.std.proofs.lemmas.Iterator.Search.{any_from_yields_List, find_from_yields_List}
pub use Rattle.std.specs.FinMap.{entries, entries_sorted, find, get, get-entries, insert, is_sorted}
pub use Rattle.std.specs.List.{cons_option, filter_map, list_all, list_any, position, position_or_len, remove}
pub use Rattle.std.specs.Option.{option_and_then, option_map}
pub use Rattle.std.specs.Prelude.{IfSome, if◌then◌else◌, is_some, nat_lt, slice_get, unwrap_or}
pub use Rattle.moo_rows.specs.Maps.{Held, Maps, verb_cmp, wrote}
pub use Rattle.moo_rows.specs.Walk.{verbs_of, verbs_of_left}
pub use Rattle.moo_rows.specs.declared.row.VerbId.{VerbId}
pub use Rattle.moo_rows.specs.declared.row.VerbRow.{VerbRow}
pub use Rattle.moo_value.specs.declared.value.ObjNo.{ObjNo}
pub use Rattle.moo_verbs.specs.Places.{has_verb, verb_place}
pub use Rattle.moo_world.specs.Directories.{changed_at, verb_added, verb_at, verb_changed, verb_removed}
pub use Rattle.moo_world.specs.Keeps.{Keeps}
pub use Rattle.moo_world.specs.Matching.{begins_with, is_empty, is_space, is_star, matches, matches_around, matches_at, one_matches, same_name}
pub use Rattle.moo_world.specs.Numbers.{props_stay}
pub use Rattle.moo_world.specs.Objects.{Name, same_object, same_object-Decides, same_text-Decides}
unfoldable pub use Rattle.moo_world.specs.Objects.{folded, same_text}
pub use Rattle.moo_world.specs.Prepositions.{prep_text, set_text}
pub use Rattle.moo_world.specs.Rows.{IsGood, IsSound, LookUps, look_ups, numbers_below, object_shown, verb_id, world_of}
unfoldable pub use Rattle.moo_world.specs.Rows.{world_shown}
pub use Rattle.moo_world.specs.World.{IsWellFormed, WorldObject, World, directory_of, is_object, verb_fits}
