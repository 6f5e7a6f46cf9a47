use Rattle.moo_damage.proofs.Words.{rules, nat_lt, ◌&&◌, world_of, share_name}
use Rattle.moo_damage.proofs.checks.is_double.Goals as goal

pub returns : goal.returns
returns g c =
    let m = (g.R.Rows.held c.args.rows.now).maps in
    c.any_bad.ensures (λ other row. nat_lt other.0 c.args.id.0 && share_name (world_of m) c.args.row.now row) (λ b k r says. search rules)
