use Rattle.std.{proofs.Common.{[], ◌∷◌, map, fold, sym, ap, ◌∙◌}, proofs.lemmas.List.{drop_all}, specs.Char.{to_ascii_lowercase}}
use Rattle.std.specs.Hash.DefaultHasher as sip
use Rattle.moo_rows.specs.Named.{name_hash}
use Rattle.moo_rows.proofs.name_hashes.name_hash.Goals as goal

-- no byte is left
pub returns : goal.returns
unfolding name_hash
returns c =
    c.finish.ensures
    ∙ ap sip.finish (
    ap (λ l. fold (λ state byte. sip.write state (byte ∷ [])) c.loop-byte.state (map to_ascii_lowercase l)) (sym (drop_all c.loop-byte.byte-index c.args.name.now c.loop-byte-test.false))
    ∙ c.loop-byte.invariant
    )
