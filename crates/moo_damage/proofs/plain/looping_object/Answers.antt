use Rattle.moo_damage.{proofs.Plainly.{plain_down}, proofs.Descending.{all_end}}
use Rattle.moo_damage.proofs.plain.looping_object.Goals as goal

pub returns-then-are_plain : goal.returns-then-are_plain
returns-then-are_plain g c =
    let m = (g.R.Rows.held c.args.rows.now).maps in
    all_end c.args.link m c.requires.links (plain_down m (c.requires.plain c.if-are_plain.true) c.args.link)
