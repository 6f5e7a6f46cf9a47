-- The words that most proofs of this crate share.
pub use Rattle.std.proofs.Common.{Bool, Equal, Greater, IfOk, Less, List, None, Option, Ordering, Some, T, [], ap, append-nil, append_assoc, arith, cond, drop, false, inl, inr, length, map, negsuc, pos, refl, rules, subst, suc, sym, true, zero, ℕ, ◌&&◌, ◌++◌, ◌-◌, ◌<◌, ◌||◌, ◌∙◌, ◌∷◌, ◌≡◌, ◌≢◌, ◌≤◌, ◌⊎◌}
pub use Rattle.std.proofs.lemmas.Bool.{both_ways, cases_lt, or_cases, or_right, true≢false}
pub use Rattle.std.proofs.lemmas.Iterator.{items_from_collect}
pub use Rattle.std.proofs.lemmas.Iterator.Consumers.{YieldsList-from_rest}
pub use Rattle.std.proofs.lemmas.Option.{same_Some}
pub use Rattle.std.specs.BTreeMap.{BTreeMap, IsOrdered, keys}
pub use Rattle.std.specs.Cmp.{int_cmp_is, tied_itself}
pub use Rattle.std.specs.FinMap.{FinMap, entries, entries_sorted, from_entries, get, get-empty, get-entries, get-from_entries, get-insert, insert, is_sorted}
pub use Rattle.std.specs.List.{AllByRecursion, filter, find}
pub use Rattle.std.specs.Option.{option_map}
pub use Rattle.std.specs.Ordering.{eq_by_cmp, int_eq, is_eq, is_lt}
pub use Rattle.std.specs.Prelude.{if◌then◌else◌, is_some, slice_index_or, unwrap_or, ◌+◌, ◌≤ℤ◌}
pub use Rattle.moo_value.specs.declared.value.ObjNo.{ObjNo}
pub use Rattle.moo_rows.specs.Ordered.{contents}
pub use Rattle.moo_rows.proofs.Orders.{object_total}
pub use Rattle.moo_rows.specs.Exact.{object_exact}
pub use Rattle.moo_rows.specs.Links.{has_link, linked_left, ties_of}
pub use Rattle.moo_rows.specs.Maps.{Maps, object_cmp}
pub use Rattle.moo_rows.specs.declared.row.Link.TheVariants.{ChildOf, Player, Within}
pub use Rattle.moo_rows.specs.declared.row.ObjRow.{ObjRow}
pub use Rattle.moo_world.proofs.Ancestry.Chains.{Climbs-among, Climbs-split, Climbs-unique, front_of, is_among_here, is_among_later}
pub use Rattle.moo_world.proofs.Ancestry.Trees.{Chain-chain, chain_of_none, no_parent}
pub use Rattle.moo_world.proofs.Shown.Seen.{chain_of_no_row, chain_of_row, is_object_seen, none_passes, passes_seen}
pub use Rattle.moo_world.specs.Manual.{ancestors, common}
pub use Rattle.moo_world.specs.ObjectLists.{children_of, contents_of, is_parent_of, objects_of, players_of, subtree_of}
pub use Rattle.moo_world.specs.Objects.{is_among, nothing, same_object, same_object-Decides, same_object-eq}
pub use Rattle.moo_world.specs.Rows.{LookUps, look_ups, world_of, world_shown}
pub use Rattle.moo_world.specs.World.{Chain, IsTree, World, climb, is_object, numbers_to, parent_of, location_chain, row_passes}
unfoldable pub use Rattle.moo_world.specs.World.{chain}
pub use Rattle.moo_tree.specs.Under.{IsOwnerMap, owner_if_under, owners_under}
