use Rattle.moo_cells.{specs.Damage.{IsMet}, proofs.OneDamage.{one_damage}}
use Rattle.moo_cells.proofs.laws.one_damage.Goals as goal

pub returns : goal.returns
returns c t kind other key at one two = one_damage (IsMet t) kind other key at one.1 two.1
