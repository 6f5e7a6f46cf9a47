-- The words that most proofs of this crate share.
pub use Rattle.std.proofs.Common.{Bool, Equal, Greater, IsSome, IsTrue, Less, List, None, Option, Ordering, Some, T, [], ap, append-nil, append_assoc, arith, cond, false, is_some, length, nat_abs, pos, refl, rules, subst, sym, true, unwrap_or, ◌&&◌, ◌++◌, ◌+◌, ◌-ℤ◌, ◌-◌, ◌||◌, ◌∙◌, ◌∷◌, ◌≡◌, ◌≢◌}
pub use Rattle.std.specs.FinMap.{FinMap, empty, entries, find, from_entries, get, get-empty, get-entries, get-from_entries, get-insert, get-remove, insert, is_sorted, len-empty, len-entries, same_map}
pub use Rattle.std.specs.Prelude.{is_some, ⊤}
pub use Rattle.moo_rows.specs.Ordered.{IsNext, IsNextAt, contents, lesser}
pub use Rattle.moo_rows.proofs.Firsts.{either-first, first-found, first-none, first-skipped, has-insert, lacked-insert, lacked-put, next-first, on_ok, or_first, or_second, pair-none}
pub use Rattle.moo_rows.proofs.Linking.{candidate-covers, covered-put, covered-remove, covered-there, defined-put, defined-remove, kept-may, less-locations, less-parents, less-players, may-as-kept, more-locations, more-parents, more-players, none-may, stays-there}
pub use Rattle.moo_rows.proofs.Naming.{kept-insert, named-covers, named-more, named-none, named-past, named-put, named-remove, named-same, named_total}
pub use Rattle.moo_rows.proofs.Orders.{object_total, petition_total, prop_total, slot_total, tie_total, verb_total}
pub use Rattle.moo_rows.specs.Links.{AreCovered, AreOfDefiners, IsFirst, LinkSets, has_link, is_candidate, is_definer, is_kept, is_linked, is_to_nothing, may_have, row_defined, row_has, tie_cmp, ties_have, ties_of}
pub use Rattle.moo_rows.specs.Maps.{Held, Maps, no_maps, object_cmp, petition_cmp, prop_cmp, slot_cmp, verb_cmp, with_petition, without_petition}
pub use Rattle.moo_rows.specs.Named.{AreByName, Tag, is_named_by, named_cmp, name_hash, row_named, tag_of}
pub use Rattle.moo_rows.specs.declared.row.PropId.{PropId}
pub use Rattle.moo_value.specs.declared.value.ObjNo.{ObjNo}
pub use Rattle.std.specs.Ordering.{eq_by_cmp, is_eq, is_lt, match_ordering, ordering_reverse}
pub use Rattle.std.specs.Vec.Iter.{into_iter_items, into_iter_len}
pub use Rattle.moo_memory.specs.Changes.{IsChanges, changed_each}
pub use Rattle.moo_memory.specs.Either.{EitherCovers, is_candidate_of_either, is_own_candidate, is_that, may_have_own, of_changes}
pub use Rattle.moo_memory.specs.Forgotten.{has_key}
pub use Rattle.moo_memory.specs.Overlay.{IsNextOfEither, changed, changed_all, overlaid, row_over}
pub use Rattle.moo_rows.specs.Exact.{object_exact, petition_exact, prop_exact, slot_exact, verb_exact}
