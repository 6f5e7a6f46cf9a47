use Rattle.moo_damage.{proofs.Words.{entries, object_cmp, contents, props_left, AreApart, NamesApart}, proofs.Firsts.{FirstLeft}}
use Rattle.moo_damage.proofs.names.are_names_apart.Given as goal

-- what holds of those that are left holds of all
abbrev pub invariant-loop-id : goal.invariant-loop-id
invariant-loop-id g l =
    let m = (g.R.Rows.held l.rows).maps in
    let left = props_left l._id-iterator.last (g.R.Rows.held l._id-iterator.rows.now).maps in
    record {
      apart : FirstLeft (λ id p. NamesApart m p.definer) (λ id p. ⊥) left (entries m.props);
      known : AreApart m (contents object_cmp l.known);
    }
