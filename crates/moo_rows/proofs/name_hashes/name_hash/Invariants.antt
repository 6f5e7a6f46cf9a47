use Rattle.std.{proofs.Common.{◌≡◌, [], ◌∷◌, map, drop, fold}, specs.Char.{to_ascii_lowercase}}
use Rattle.std.specs.Hash.DefaultHasher as sip
use Rattle.moo_rows.proofs.name_hashes.name_hash.Given as goal

-- the bytes that are left, after the state so far, are hashed as all are
abbrev pub invariant-loop-byte : goal.invariant-loop-byte
invariant-loop-byte l =
    fold (λ state byte. sip.write state (byte ∷ [])) l.state (map to_ascii_lowercase (drop l.byte-index l.name))
    ≡ fold (λ state byte. sip.write state (byte ∷ [])) sip.initial (map to_ascii_lowercase l.fn.name)
