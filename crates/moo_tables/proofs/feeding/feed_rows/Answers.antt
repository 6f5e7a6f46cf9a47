use Rattle.moo_tables.{proofs.Words.{rules, ◌≡◌, inl, [], ◌++◌, ◌∷◌, refl, ◌∙◌, always}, proofs.ReadCauseLemmas.{handed_on}, proofs.StreamLemmas.{begins, refused, why_failed, gives_on, shown_on}, proofs.feeding.feed_rows.Given.{Over}}
use Rattle.moo_tables.proofs.feeding.feed_rows.Goals as goal

-- the connection that is handed back is the one that the query had

rows_end : (g : Over) (c : goal.After-conn-in_default-1 g) → c.conn-in_default-1.given.0 ≡ c.next.follows.lender-at-none.conn.now
rows_end g c = search rules

row_end : (g : Over) (c : goal.After-drop-block-in_err-row g) → c.conn-in_err-row-1.given.0 ≡ c.next.follows.lender-at-none.conn.now
row_end g c = search rules

pub returns-in_err-rows-clause-kept : goal.returns-in_err-rows-clause-kept
returns-in_err-rows-clause-kept g c clean plain =
    always c.from_residual.result (refused g.S.Store c.args.sql.now c.args.conn.now c.query.result c.in_err-rows.field-0.0 c.query.follows.lender-at-none c.in_err-rows.was c.query.follows.holds-at-none clean plain)

pub rows-init : goal.rows-init
rows-init g c =
    let made = c.in_ok-rows.ensures in (
      refl,
      record {
        read = [];
        giving = begins g.S.Store c.args.sql.now c.args.conn.now c.in_ok-rows.rows.conn.now made.mode made.survives made.begun;
        fed = λ none. ([], none, c.new-block.ensures.items);
      },
    )

pub rows-preserved : goal.rows-preserved
rows-preserved g c =
    let now = c.next.follows.lender-at-none.conn.now in
    let moved = c.next.follows.holds-at-none in
    let was = c.rows.invariant.1 in
    let it = gives_on g.S.Store c.args.sql.now c.args.conn.now c.rows.rows.conn.now now was.read was.giving moved.survives (λ late. rw c.in_ok-row.was at (moved.same late)) c.in-Some.row.now moved.mode (λ late. rw (c.in_ok-row.was, c.in-Some.is) at (moved.ok late)) in (
      moved.same_reference ∙ c.rows.invariant.0,
      record {
        read = was.read ++ c.in-Some.row.now ∷ [];
        giving = it;
        fed = λ none. rw c.in_ok-copy.ensures at (c.in_ok-taken.ensures c.args.taker.now was.read (was.fed none) c.if-not-taken.false);
      },
    )

pub returns-in_default-clause-taken : goal.returns-in_default-clause-taken
returns-in_default-clause-taken g c none held =
    let was = c.rows.invariant.1 in
    let fed = was.fed none in (
      fed.0 ++ c.rows.block.items,
      c.take.ensures c.args.taker.now fed.0 fed.1 held,
      λ clean plain. rw (fed.2, rows_end g c) (shown_on g.S.Store _ _ _ c.next.follows.lender-at-none.conn.now _ was.giving c.next.follows.holds-at-none.survives (λ late. rw (c.in_ok-row.was, c.in_default.is) at (c.next.follows.holds-at-none.ok late)) (rw (rows_end g c) at clean) plain),
    )

pub returns-in_err-row-clause-cause : goal.returns-in_err-row-clause-cause
returns-in_err-row-clause-cause g c clean plain =
    rw (row_end g c) (handed_on _ c.from_residual-in_err-row.result c.in_err-row.field-0.0 c.from_residual-in_err-row.ensures.1 (inl (why_failed g.S.Store _ _ _ c.next.follows.lender-at-none.conn.now _ c.rows.invariant.1.giving c.next.follows.holds-at-none.survives c.in_err-row.field-0.0 (λ late. rw c.in_err-row.was at (c.next.follows.holds-at-none.err late)) (rw (row_end g c) at clean) plain)))
