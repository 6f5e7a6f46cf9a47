-- What is gathered of all objects before the lines of each are printed.
use Rattle.moo_rows.specs.Maps.{Maps}
use Rattle.moo_dump.specs.{Lines.{ListsDefinitions, SkipUp}, declared.outline.Outline.{Outline}}

-- the outline has what each object defines, and each of its entries leads up the chain
pub record IsOutline (t : Maps) (outline : Outline) : Type 0 where
  pub listed : ListsDefinitions t outline.definitions
  pub up : SkipUp t outline.skips
