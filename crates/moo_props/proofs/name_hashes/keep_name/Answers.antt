use Rattle.moo_props.{proofs.Words.{arith, ◌≡◌, sym, ap, ◌∙◌, same_Some, is_some, get, insert, PropRow, contents, hashed_cmp}, proofs.HashedNames.{hashed_total}}
use Rattle.moo_rows.{specs.Named.{name_hash}, proofs.Firsts.{has-insert, on_ok}, proofs.Naming.{kept-insert}}
use Rattle.moo_props.proofs.name_hashes.keep_name.Goals as goal

pub returns-in-Some-clause-kept : goal.returns-in-Some-clause-kept
returns-in-Some-clause-kept g c =
    let m = contents hashed_cmp c.args.names.now in
    on_ok c.put.result (λ put hash other held. ap (λ n. is_some (get n (hash, other))) put ∙ kept-insert hashed_total m (c.name_hash.result, c.args.id) _ (hash, other) held) c.put.ensures.ok

pub returns-in-Some-clause-there : goal.returns-in-Some-clause-there
returns-in-Some-clause-there g c =
    let m = contents hashed_cmp c.args.names.now in
    on_ok c.put.result (λ put row here.
    let same : c.in-Some.row.now ≡ row = same_Some c.in-Some.row.now row (c.in-Some.ensures ∙ here) in
    let hash : c.name_hash.result ≡ name_hash row.name = c.name_hash.ensures ∙ ap name_hash c.bytes.ensures.value ∙ ap (λ (r : PropRow). name_hash r.name) same in
    ap (λ n. is_some (get n (name_hash row.name, c.args.id))) put
    ∙ ap (λ h. is_some (get (insert m (c.name_hash.result, c.args.id) _) (h, c.args.id))) (sym hash)
    ∙ has-insert hashed_total m (c.name_hash.result, c.args.id) _) c.put.ensures.ok
