-- The words that most proofs of this crate share.
pub use Rattle.std.proofs.Common.{Bool, List, [], ap, arith, drop, false, get_or, length, map, nat_lt, negsuc, pos, refl, subst, suc, sym, take, true, zero, ℕ, ℤ, ◌&&◌, ◌*◌, ◌++◌, ◌+◌, ◌<◌, ◌==◌, ◌^◌, ◌||◌, ◌∙◌, ◌∷◌, ◌≡◌, ◌≤◌, rules}
pub use Rattle.std.specs.Prelude.{codes}
pub use Rattle.std.specs.Str.{IsAscii, IsUtf8}
pub use Rattle.moo_value.specs.Literal.{HoldIn, HoldInside, InRange, NumberKind, an_integer, an_object, escape, name, print, print_comma, print_items, print_string}
pub use Rattle.moo_value.specs.Text.{IsText, is_allowed}
pub use Rattle.moo_value.specs.Value.{gather, nesting, prepend}
pub use Rattle.moo_value.specs.Values.{Values, error, int, levels, list, no_values, object}
pub use Rattle.moo_value.specs.declared.value.Value.{Value}
pub use Rattle.moo_value.specs.declared.value.Value.TheVariants.{Error, Int, Obj, Str}
pub use Rattle.serde_json.specs.Data.{string}
pub use Rattle.serde_json.specs.View.{view}
pub use Rattle.serde_json.specs.Written.{has_float, items_have_float}
pub use Rattle.moo_http_response.specs.Bodies.{accepted_body, look_body, object_text, strings}
