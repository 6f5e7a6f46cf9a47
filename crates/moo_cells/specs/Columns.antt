-- Columns of the table of verbs.
use Rattle.std.specs.Prelude.{◌≡◌}
use Rattle.sqlite.specs.{Order.{Row, column}, declared.types.Value.TheVariants.{Text}}
use Rattle.moo_rows.specs.declared.row.ArgSpec.{ArgSpec}
use Rattle.moo_world.specs.Prepositions.{prep_text, object_spec_text}

-- these arguments are in their columns
pub record HasArgs (cells : Row) (args : ArgSpec) : Type 0 where
  pub dobj : column cells 5 ≡ Text (object_spec_text args.dobj)
  pub prep : column cells 6 ≡ Text (prep_text args.prep)
  pub iobj : column cells 7 ≡ Text (object_spec_text args.iobj)
