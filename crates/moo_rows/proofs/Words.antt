-- The words that most proofs of this crate share.
pub use Rattle.std.proofs.Common.{arith, Bool, Equal, Greater, IsSome, Less, List, None, Option, Ordering, Some, T, [], ap, append-nil, append_assoc, cond, false, is_some, map, nat_lt, negsuc, pos, refl, subst, sym, true, unwrap_or, ℕ, ℤ, ◌&&◌, ◌++◌, ◌<◌, ◌||◌, ◌∙◌, ◌∷◌, ◌≡◌, ◌≢◌}
pub use Rattle.std.proofs.lemmas.Bool.{lt-ltb, true≢false}
pub use Rattle.std.proofs.lemmas.Bool.Decides.{Decides-int_eq}
pub use Rattle.std.proofs.lemmas.Map.Lookups.{CmpEqualImpliesEq}
pub use Rattle.std.specs.Cmp.{IsTotalOrder, tied_itself}
pub use Rattle.std.specs.FinMap.{FinMap, entries, entries_sorted, find, get, get-entries, get-insert, get-remove, insert, is_sorted, remove}
pub use Rattle.std.specs.FinMap.Entries.{below_all}
pub use Rattle.std.specs.List.{filter}
pub use Rattle.std.specs.Option.{option_map}
pub use Rattle.std.specs.Ordering.{eq_by_cmp, int_eq, is_eq, is_lt, match_ordering, nat_cmp, ordering_reverse, ordering_then}
pub use Rattle.std.specs.Prelude.{OnErr, OnOk, nat_le, ⊤, ◌==◌}
pub use Rattle.moo_value.specs.declared.value.ObjNo.{ObjNo}
pub use Rattle.moo_rows.specs.Ordered.{IsNext, IsPast, lesser}
pub use Rattle.moo_rows.specs.Exact.{object_exact, petition_exact, prop_exact, slot_exact, tie_exact, verb_exact}
pub use Rattle.moo_rows.specs.Links.{AreCovered, AreOfDefiners, IsFirst, LinkSets, defined_left, has_link, is_candidate, is_definer, is_kept, is_linked, is_to_nothing, linked_left, may_have, row_defined, row_has, tie_cmp, ties_have, ties_of}
pub use Rattle.moo_rows.specs.Maps.{Maps, object_cmp, petition_cmp, prop_cmp, slot_cmp, verb_cmp}
pub use Rattle.moo_rows.specs.Walk.{entries_past, is_past, objects_left, petitions_left, props_left, rows_left, slots_above, slots_left, slots_of, slots_of_left, verbs_above, verbs_left, verbs_of, verbs_of_left}
pub use Rattle.moo_rows.specs.declared.row.ObjRow.{ObjRow}
pub use Rattle.moo_rows.specs.declared.row.PetitionId.{PetitionId}
pub use Rattle.moo_rows.specs.declared.row.PropId.{PropId}
pub use Rattle.moo_rows.specs.declared.row.PropRow.{PropRow}
pub use Rattle.moo_rows.specs.declared.row.VerbId.{VerbId}
