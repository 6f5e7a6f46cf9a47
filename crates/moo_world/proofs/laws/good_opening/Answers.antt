use Rattle.moo_world.{proofs.Words.{sym, subst, IsGood}, proofs.Shown.OpeningRows.{opening-good}}
use Rattle.moo_world.proofs.laws.good_opening.Goals as goal

pub returns : goal.returns
returns c maps is = subst IsGood (sym is) opening-good
