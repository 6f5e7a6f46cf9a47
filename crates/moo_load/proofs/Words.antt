-- The words that most proofs of this crate share.
pub use Rattle.std.proofs.Common.{Bool, Err, List, None, Ok, Option, Result, Some, [], ap, append-nil, append_assoc, arith, cond, drop, false, get_or, inl, inr, length, length-append, map, negsuc, of_z, pos, refl, rules, subst, suc, sym, take, take-append-drop, to_z, true, w32, zero, ℕ, ℤ, ◌&&◌, ◌++◌, ◌+◌, ◌-◌, ◌<◌, ◌∙◌, ◌∷◌, ◌≡◌, ◌≢◌, ◌≤ℤ◌, ◌≤◌, ◌⊎◌}
pub use Rattle.std.proofs.Math.Seq.{drop-cons, take-length}
pub use Rattle.std.proofs.lemmas.Bool.{and_from, and_parts, false≢true, le-leb, leb-true, lt-ltb, or_cases, or_parts}
pub use Rattle.std.proofs.lemmas.Bool.Decides.{Decides-eqb}
pub use Rattle.std.proofs.lemmas.Int.{ints, to_z-of_z}
pub use Rattle.std.proofs.lemmas.List.{append_cancel_left, append_cancel_right, drop-drop, drop_all, drop_at, length-map, map-append, take_all, take_at, take_rest}
pub use Rattle.std.proofs.lemmas.List.Concat.{flat_map-append}
pub use Rattle.std.proofs.lemmas.List.Elements.{filter_map-append, filter_passes, recursion_from_All}
pub use Rattle.std.proofs.lemmas.Map.Lookups.{CmpEqualImpliesEq}
pub use Rattle.std.proofs.lemmas.Option.{none-some, same_Some}
pub use Rattle.std.proofs.lemmas.Result.{IfErr-weaker, IfOk-weaker, on_ok_weaker}
pub use Rattle.std.proofs.lemmas.Slice.Eq.{bytes_eq-Decides}
pub use Rattle.std.specs.Cmp.{IsTotalOrder, nat_cmp_is, ranked}
pub use Rattle.std.specs.FinMap.{FinMap, empty, entries, entries_sorted, find as find_key, get, get-empty, get-entries, get-insert, insert, same_map}
pub use Rattle.std.specs.Fmt.{decimal, signed_decimal}
pub use Rattle.std.specs.List.{AllByRecursion, cons_option, filter, filter_map, find, flat_map, list_all, position_from}
unfoldable pub use Rattle.std.specs.List.{IsDistinct}
pub use Rattle.std.specs.Option.{option_and_then, option_map}
pub use Rattle.std.specs.Ordering.{eq_by_cmp, int_eq}
pub use Rattle.std.specs.Prelude.{IfSome, IsTrue, codes, is_some, max, nat_le, not, slice_get, unwrap_or, ◌==◌, ◌^◌, ◌||◌}
pub use Rattle.std.specs.Str.{bytes_eq}
pub use Rattle.std.specs.declared.cmp.Ordering.{Ordering}
pub use Rattle.std.specs.declared.cmp.Ordering.TheVariants.{Equal, Greater, Less}
pub use Rattle.moo_damage.proofs.Apart.{all_append, all_map, both_true, distinct_append, distinct_numbers, none_any}
pub use Rattle.moo_dump.specs.Dump.{heading, object_line, object_lines, object_values, owed_line, petition_line, property_line, record_lines, slot_line, state_values, verb_line, verb_values}
unfoldable pub use Rattle.moo_dump.specs.Dump.{dump}
pub use Rattle.moo_rows.proofs.Orders.{object_total, petition_total, prop_total, slot_total, verb_total}
pub use Rattle.moo_rows.specs.Bits.{bits_of, letters_of, verb_bits_of, verb_letters_of}
pub use Rattle.moo_rows.specs.Exact.{object_exact, petition_exact, prop_exact, slot_exact, verb_exact}
pub use Rattle.moo_rows.specs.Links.{IsFirst, is_definer, row_defined}
pub use Rattle.moo_rows.specs.Maps.{Held, Maps, no_maps, object_cmp, petition_cmp, prop_cmp, slot_cmp, verb_cmp, with_object, with_slot}
pub use Rattle.moo_rows.specs.declared.row.Bits.{Bits}
pub use Rattle.moo_rows.specs.declared.row.Head.{Head}
pub use Rattle.moo_rows.specs.declared.row.ObjRow.{ObjRow}
pub use Rattle.moo_rows.specs.declared.row.PetitionId.{PetitionId}
pub use Rattle.moo_rows.specs.declared.row.PetitionRow.{PetitionRow}
pub use Rattle.moo_rows.specs.declared.row.ObjectSpec.{ObjectSpec}
pub use Rattle.moo_rows.specs.declared.row.ObjectSpec.TheVariants.{This}
pub use Rattle.moo_rows.specs.declared.row.Preposition.{Preposition}
pub use Rattle.moo_rows.specs.declared.row.PropId.{PropId}
pub use Rattle.moo_rows.specs.declared.row.PropRow.{PropRow}
pub use Rattle.moo_rows.specs.declared.row.SlotRow.{SlotRow}
pub use Rattle.moo_rows.specs.declared.row.SlotState.{SlotState}
pub use Rattle.moo_rows.specs.declared.row.SlotState.TheVariants.{Clear, Set}
pub use Rattle.moo_rows.specs.declared.row.VerbBits.{VerbBits}
pub use Rattle.moo_rows.specs.declared.row.VerbId.{VerbId}
pub use Rattle.moo_rows.specs.declared.row.VerbRow.{VerbRow}
pub use Rattle.moo_value.proofs.Printed.{prepend_printed, printed, spelled}
pub use Rattle.moo_value.specs.Literal.{AreBlanks, AreDigits, Ends, Fits, Front, HoldInside, InRange, Spaced, Spells, SpellsNumber, SpellsObject, an_integer, escape, is_blank, is_digit, name, print, print_comma, print_items, print_string}
pub use Rattle.moo_value.specs.Text.{IsText, is_allowed}
pub use Rattle.moo_value.specs.Value.{gather, nesting, spread}
pub use Rattle.moo_value.specs.Values.{Values, error, int, levels, list, no_values, object, string}
pub use Rattle.moo_value.specs.declared.fault.LiteralFault.{LiteralFault}
pub use Rattle.moo_value.specs.declared.value.ObjNo.{ObjNo}
pub use Rattle.moo_value.specs.declared.value.Value.{Value}
pub use Rattle.moo_value.specs.declared.value.Value.TheVariants.{Error, Int, List as a_list, Obj, Str}
pub use Rattle.moo_world.proofs.Ancestry.Subtrees.{object_listed}
pub use Rattle.moo_world.proofs.Ancestry.Trees.{Chain-chain, chain-step, linked, no_parent, nothing_is_no_object}
pub use Rattle.moo_world.proofs.Form.Limits.{object_numbered, row_fitting, slot_owner, slot_state}
pub use Rattle.moo_world.proofs.Form.Ranges.{fits_of, fits_tested, range_of}
pub use Rattle.moo_world.proofs.Inheritance.Owed.{all_right, named_so, defined_by_any-append}
pub use Rattle.moo_world.proofs.Shown.EntriesInOrder.{all_weaker, own_entries}
pub use Rattle.moo_world.proofs.Shown.MapLaws.{key-Decides}
pub use Rattle.moo_world.proofs.Shown.PairLists.{pairs_left, some_of}
pub use Rattle.moo_world.specs.Answers.{flag, list_of}
pub use Rattle.moo_world.specs.Arguments.{all_within_limits, fits, is_number, is_text, objects_among}
pub use Rattle.moo_world.specs.Calls.{accept_value}
pub use Rattle.moo_world.specs.Judge.{State, state_of}
pub use Rattle.moo_world.specs.ObjectLists.{objects_of}
pub use Rattle.moo_world.specs.Objects.{Name, Property, is_among, nothing, object_at, same_object-Decides, same_property-self, same_text-Decides}
unfoldable pub use Rattle.moo_world.specs.Objects.{folded, same_object, same_property, same_text}
pub use Rattle.moo_world.specs.Petitions.{PetitionsStand, are_few, are_shallow, is_named, petition_fits}
pub use Rattle.moo_world.specs.Prepositions.{object_spec_text, prep_text}
pub use Rattle.moo_world.specs.Requests.{IsFormed}
pub use Rattle.moo_world.specs.Rows.{IsGood, IsSound, look_ups, name_on, numbers_below, prop_id, object_shown, slot_on, slot_seen, verb_id, world_of}
unfoldable pub use Rattle.moo_world.specs.Rows.{world_shown}
pub use Rattle.moo_world.specs.World.{Climbs, IsWellFormed, NamesDiffer, WorldObject, Slot, World, accept_fits, defined_by, directory_of, has_word, is_object, is_property_name, property_names_of, numbers_to, defined_by_any, property_named, parent_of, row_fits, row_of, slot_of, state_fits, verb_fits, with_slots}
unfoldable pub use Rattle.moo_world.specs.World.{chain}
pub use Rattle.moo_load.proofs.Failing.{from_err}
pub use Rattle.moo_load.specs.Entries.{EachHas, Entry, EntryFits, NumberIsLeft, NumbersAreLeft, a_petition, a_property, a_slot, a_verb, an_object, carried, entries_taken, entry_lines, entry_taken, entry_text, entry_values}
pub use Rattle.moo_load.specs.Lines.{line_ends}
pub use Rattle.moo_load.specs.OneState.{AreTheSame, IsHeld}
pub use Rattle.moo_load.specs.Printed.{ArePrinted, IsOneLine, petition_values, slot_values, word_text}
pub use Rattle.moo_load.specs.Rows.{AreRead, first_head, petition_taken, property_taken, verb_taken}
pub use Rattle.moo_load.specs.RowsOf.{AreRowsOf, HasNumbers, IsAbove, all_properties, all_verbs, at_number, dumped_slot, property_row, slot_of_property, verb_on}
pub use Rattle.moo_load.specs.Slots.{IsNextProperty, SlotIsNext, no_slot, number_before, slot_line_put}
pub use Rattle.moo_load.specs.declared.line.Word.TheVariants.{Object, Petition, Property as PropertyWord, Verb}
pub use Rattle.moo_load.specs.declared.taking.LastSlot.{LastSlot}
