-- The words that most proofs of this crate share.
pub use Rattle.std.proofs.Common.{Bool, Err, FitsSigned, List, Ok, Option, Result, Some, [], ap, append_assoc, arith, cond, drop, false, get_or, inl, inr, length, lit<, map, negsuc, of_z, pos, refl, rules, subst, suc, sym, take, to_z, true, w32, zero, ℕ, ℤ, ◌*◌, ◌++◌, ◌+◌, ◌-◌, ◌<◌, ◌∙◌, ◌∷◌, ◌≡◌, ◌≢◌, ◌≤◌, ◌⊎◌}
pub use Rattle.std.specs.Char.{to_ascii_lowercase}
pub use Rattle.std.specs.Int.{w128, w64}
pub use Rattle.std.specs.Io.{StartsWith}
pub use Rattle.std.specs.List.{AllByRecursion, flat_map, list_all}
pub use Rattle.std.specs.Prelude.{IsTrue, OnOk, nat_le, not, ◌-ℤ◌, ◌==◌, ◌||◌}
pub use Rattle.std.specs.Str.{str_eq_ignore_ascii_case}
pub use Rattle.std.proofs.lemmas.Bool.{cases_Bool, cases_lt, eqb-true}
pub use Rattle.std.proofs.lemmas.Int.{to_z-of_z}
pub use Rattle.std.proofs.lemmas.Iterator.{YieldsList-from_slice}
pub use Rattle.std.proofs.lemmas.List.{append-nil, drop_at, length-append, take-append-drop, take_all, take_at}
pub use Rattle.std.proofs.lemmas.Result.{err_from_is_err_and}
pub use Rattle.moo_value.specs.Fault.{DepthBut, KeepsBut, MayBreak, NumberBut, TextBut}
pub use Rattle.moo_value.specs.Literal.{AreBlanks, AreDigits, BeginsNo, Comma, Ends, Fits, Front, HoldIn, HoldInside, InRange, Item, NumberKind, Spells, SpellsBytes, SpellsItems, SpellsName, SpellsNumber, SpellsToken, an_integer, an_object, escape, is_blank, is_digit, is_word, name, print_items, signed, value_after}
pub use Rattle.moo_value.specs.Reading.{Fails, Read, after_blanks, after_word, digits_at, greatest, items_at, named, number_at, opened_at, string_at, token_at, value_at, word, ◌>>=◌}
unfoldable pub use Rattle.moo_value.specs.Reading.{literal_at}
pub use Rattle.moo_value.{specs.SameValue.{value-exact}, specs.Text.{IsText, is_allowed}, specs.Value.{gather, nesting, prepend}}
pub use Rattle.moo_value.{specs.Values.{Values, error, int, levels, list, no_values, object, string}, specs.declared.code.Code.{Code}}
pub use Rattle.moo_value.specs.declared.fault.LiteralFault.{LiteralFault}
pub use Rattle.moo_value.specs.declared.fault.LiteralFault.TheVariants.{BadByte, NotALiteral, OutOfMemory, OutOfRange, TooDeep, TooLong}
pub use Rattle.moo_value.{specs.declared.value.Value.{Value}, specs.declared.value.Value.TheVariants.{Error, Int, List as a_list, Obj, Str}}
pub use Rattle.moo_value.{proofs.Gather.{spread-gathered}, proofs.Results.{bind_err, bind_ok, chosen, is_err, is_ok, no_err, no_ok}}
pub use Rattle.moo_value.proofs.Texts.{AreAllowed, all_allowed}
pub use borrow.Author.Tests.{tests}
