use Rattle.moo_value.{proofs.Words.{◌≡◌, map, sym, subst, rules, to_ascii_lowercase, IsText}, proofs.Texts.{folded_text}}
use Rattle.moo_value.proofs.surface.fold_name.Goals as goal

pub from_vec-requires : goal.from_vec-requires
from_vec-requires c =
    let same : c.in_ok-bytes.bytes.items ≡ map to_ascii_lowercase c.args.name.now = search rules in
    subst IsText (sym same) (folded_text c.args.name.now c.bytes.ensures.text)
