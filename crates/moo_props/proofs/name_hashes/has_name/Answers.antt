use Rattle.moo_props.{proofs.Words.{arith, ◌≡◌, false, None, sym, ap, ◌∙◌, prop_exact, prop_total, contents, hashed_cmp, has_under_name}, proofs.HashedNames.{hashed-covers, one_is_named, none_is_named}}
use Rattle.moo_rows.{specs.Named.{name_hash}, proofs.Firsts.{first-none, first-skipped}}
use Rattle.moo_props.proofs.name_hashes.has_name.Goals as goal

pub returns-then-has_under_name : goal.returns-then-has_under_name
returns-then-has_under_name g c = grind (arith, one_is_named)

pub loop-id-preserved : goal.loop-id-preserved
loop-id-preserved g c =
    let t = (g.R.Rows.held c.args.rows.now).maps in
    let fails : has_under_name t c.args.x c.args.name.now c.in-Some.id ≡ false =
    sym (ap (λ n. has_under_name t c.args.x n c.in-Some.id) c.bytes-in-Some.ensures.value) ∙ sym c.has_under_name.ensures ∙ c.if-has_under_name.false in
    λ r next. c.loop-id.invariant r (first-skipped prop_total prop_exact _ _ (hashed-covers t c.requires.good c.args.x c.args.name.now (contents hashed_cmp c.args.names.now) c.requires.names _ (c.name_hash-hash.ensures ∙ ap name_hash c.bytes.ensures.value)) c.loop-id.last c.in-Some.id c.in-Some.ensures fails r next)

pub returns : goal.returns
returns g c =
    let t = (g.R.Rows.held c.args.rows.now).maps in
    sym (none_is_named t c.requires.good c.args.x c.args.name.now (c.loop-id.invariant None (first-none prop_total prop_exact _ _ (hashed-covers t c.requires.good c.args.x c.args.name.now (contents hashed_cmp c.args.names.now) c.requires.names _ (c.name_hash-hash.ensures ∙ ap name_hash c.bytes.ensures.value)) c.loop-id.last c.in_default.ensures)))
