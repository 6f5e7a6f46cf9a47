use Rattle.moo_store.proofs.Words.{◌∙◌, sym, state, IsEarlier, TakesOver}
use Rattle.sqlite.proofs.StateLemmas.{survives_weaker}
use Rattle.std.proofs.lemmas.Bool.{true≢false}
use Rattle.moo_store.proofs.migrating.make_current.Goals as goal

pub returns-clause-crash : goal.returns-clause-crash
returns-clause-crash g c has =
    let earlier : IsEarlier c.args.version = λ is. true≢false (sym (c.is_present.ensures.1 is) ∙ c.if-is_present.false) in
    let old = state g.S.Store c.args.conn.now in
    let takes = TakesOver c.args.rows.now.maps old in
    survives_weaker old (state g.S.Store c.migrate_rows.new.conn) takes (λ trees. IsEarlier c.args.version × takes trees) (λ clean trees it. (earlier, it)) (c.migrate_rows.ensures.crash c.args.version earlier has)
