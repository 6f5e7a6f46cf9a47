use Rattle.moo_tree.proofs.Words.{arith, ◌≡◌, Option, sym, ap, ◌∙◌, is_some, option_map, look_ups, is_object_seen}
use Rattle.moo_tree.proofs.numbers.valid.Goals as goal

is_some_map : {A B : Type 0} (f : A → B) (o : Option A) → is_some o ≡ is_some (option_map f o)
is_some_map f o = grind arith

pub returns : goal.returns
returns g c = c.is_some.ensures ∙ is_some_map (λ row. row.now) c.object.result ∙ ap is_some c.object.ensures ∙ sym (is_object_seen (look_ups (g.R.Rows.held c.args.rows.now).maps) c.args.x)
