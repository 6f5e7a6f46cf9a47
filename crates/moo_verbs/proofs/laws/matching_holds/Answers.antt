use Rattle.moo_verbs.proofs.StarLaw.{stars_match, names_match}
use Rattle.moo_verbs.proofs.laws.matching_holds.Goals as goal

pub returns-clause-stars : goal.returns-clause-stars
returns-clause-stars c = stars_match

pub returns-clause-names : goal.returns-clause-names
returns-clause-names c = names_match
