-- What the changed rows of a draft may have.
use Rattle.std.specs.{Prelude.{◌≡◌, Bool, false, ◌||◌, Option, None, Some, unwrap_or}, Ordering.{eq_by_cmp}}
use Rattle.std.specs.{declared.cmp.Ordering.{Ordering}, FinMap.{FinMap, get}}
use Rattle.moo_value.specs.declared.value.ObjNo.{ObjNo}
use Rattle.moo_rows.specs.{declared.row.ObjRow.{ObjRow}, declared.row.Link.{Link}, Links.{may_have, is_candidate, row_has}}
use Rattle.moo_rows.specs.Maps.{object_cmp}
use Rattle.moo_memory.specs.declared.own_links.OwnLinks.{OwnLinks}

-- the new row of a key, if it is changed and not removed
abbrev pub of_changes : {K X : Type 0} {cmp : K → K → Ordering} → FinMap cmp (Option X) → K → Option X
of_changes changes key = unwrap_or (get changes key) None

-- there is a first object, and it is the second one
abbrev pub is_that : Option ObjNo → ObjNo → Bool
is_that None key = false
is_that (Some object) key = eq_by_cmp object_cmp key object

-- a changed object that may have the link: the first one that was changed, or another that is kept for the link
abbrev pub may_have_own : OwnLinks → Link → ObjNo → Bool
may_have_own own link key = is_that own.first key || may_have own.others link key

-- each changed object that has a link is among those that may have it, or has it in the rows below too
abbrev pub EitherCovers : (ObjNo → Option ObjRow) → (ObjNo → Option ObjRow) → OwnLinks → Type 0
EitherCovers below above own = (link : Link) (key : ObjNo) → may_have_own own link key ≡ false → row_has link (below key) ≡ false → row_has link (above key) ≡ false

-- a changed object to be looked at for the link: the first one that was changed, or a candidate among the others
abbrev pub is_own_candidate : OwnLinks → FinMap object_cmp (Option ObjRow) → Link → ObjNo → Bool
is_own_candidate own changes link key = is_that own.first key || is_candidate own.others changes link key

-- an object to be looked at for the link: it has the link in the rows below, or is changed and may have it
abbrev pub is_candidate_of_either : (ObjNo → Option ObjRow) → FinMap object_cmp (Option ObjRow) → OwnLinks → Link → ObjNo → Bool
is_candidate_of_either below changes own link key = row_has link (below key) || is_own_candidate own changes link key
