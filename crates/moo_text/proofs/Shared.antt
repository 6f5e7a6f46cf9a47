-- The words that most proofs of this crate share.
pub use Rattle.std.proofs.Common.{Bool, Err, IfErr, IfOk, List, None, Ok, Option, Result, Some, [], ap, append_assoc, arith, cond, drop, false, inl, inr, length, min, refl, rules, subst, suc, sym, take, true, zero, ℕ, ◌++◌, ◌+◌, ◌-◌, ◌<◌, ◌^◌, ◌↔◌, ◌∙◌, ◌∷◌, ◌≡◌, ◌≤◌, ◌⊎◌}
pub use Rattle.std.proofs.lemmas.Bool.{cases_Bool, cases_lt, eqb-true}
pub use Rattle.std.proofs.lemmas.List.{append-nil, length-append, length-drop, length-take, take_all, take_min, take_rest}
pub use Rattle.std.specs.List.{AllByRecursion, filter, flat_map, list_all, onto_first, position_from, slice_split}
pub use Rattle.std.specs.Option.{option_and_then, option_map, option_map_or}
pub use Rattle.std.specs.Prelude.{IsTrue, codes, nat_le, nat_lt, not, slice_index, ◌&&◌, ◌==◌}
pub use Rattle.std.specs.Str.Lines.{lines, lines_of_parts, strip_carriage_return}
pub use Rattle.moo_text.specs.Feed.{Carries, IsLineRead, TakesFirst, TakesLine, TakesNext}
pub use Rattle.moo_text.specs.Given.{BreaksOff, Explains, GivesAll, ReaderGives, ReadsAll, ReadsAlong, ReadsFirst, ReadsItems, ReadsLine, ReadsNext, ReadsOn, StopsBehind}
pub use Rattle.moo_text.specs.Grammar.{ClosesCall, SpellsArguments, SpellsAt, SpellsCall, SpellsHeader, SpellsPlace}
pub use Rattle.moo_text.specs.Items.{between, items, skipping, within}
pub use Rattle.moo_text.specs.Line.{from_blank, is_all_blank, is_blank_line, is_end_line, is_end_word, is_within_line, until_blank, words_of_line}
pub use Rattle.moo_text.specs.LineReading.{arguments_of, at_of, begins_with_byte, behind_value, behind_word, call_behind, call_of, closed, found, header_behind, header_of, is_place, last_place, object_of, object_value, place_number, values_at}
unfoldable pub use Rattle.moo_text.specs.LineReading.{front_of}
pub use Rattle.moo_text.specs.Side.{IsOver, Side, lines_room, lines_side, untouched}
pub use Rattle.moo_text.specs.declared.fault.TextFault.{TextFault}
pub use Rattle.moo_text.specs.declared.fault.TextFault.TheVariants.{Long, OutOfMemory, Read, Write}
pub use Rattle.moo_text.specs.declared.header.Header.{Header}
pub use Rattle.moo_text.specs.declared.next.Next.{Next}
pub use Rattle.moo_value.proofs.Results.{chosen}
pub use Rattle.moo_value.specs.Literal.{AreBlanks, AreDigits, BeginsNo, Ends, Fits, Front, InRange, Item, Spaced, Spells, SpellsObject, SpellsToken, an_object, is_blank, is_digit, is_word, value_after}
pub use Rattle.moo_value.specs.Reading.{after_blanks, after_mark, after_word, behind_mark, items_at, opened_at, value_at, word}
unfoldable pub use Rattle.moo_value.specs.Reading.{literal_at}
pub use Rattle.moo_value.specs.declared.value.Value.{Value}
pub use Rattle.moo_world.specs.{Arguments.{fits}, Objects.{folded, same_text, same_text-Decides}, declared.call.Call.{Call}}
