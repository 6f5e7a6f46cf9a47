use Rattle.moo_store.{proofs.Words.{None, sym, subst, state, PrintEach, PrintsSlot, all_of}, proofs.OpenLemmas.{keeps_migrated, rests_migrated, survives_migrated}}
use Rattle.moo_store.proofs.migrating.migrate_rows.Goals as goal

pub returns-in-Ok-migrate-clause-keeps : goal.returns-in-Ok-migrate-clause-keeps
returns-in-Ok-migrate-clause-keeps g c clean tables rests earlier shown =
    let printed = subst (λ cells. PrintEach (λ key. PrintsSlot None) cells (all_of c.args.rows.now.maps.slots)) (sym c.deref.ensures.value) c.in-Ok.ensures in
    keeps_migrated c.args.rows.now.maps c.head.result c.deref.result.now c.head.ensures printed (state g.S.Store c.args.conn.now) (state g.S.Store c.migrate.new.conn) tables rests earlier (c.in-Ok-migrate.ensures.migrates.migrated clean tables rests earlier) shown

pub returns-in-Ok-migrate-clause-crash : goal.returns-in-Ok-migrate-clause-crash
returns-in-Ok-migrate-clause-crash g c version earlier has =
    let printed = subst (λ cells. PrintEach (λ key. PrintsSlot None) cells (all_of c.args.rows.now.maps.slots)) (sym c.deref.ensures.value) c.in-Ok.ensures in
    survives_migrated c.args.rows.now.maps c.head.result c.deref.result.now c.head.ensures printed (state g.S.Store c.args.conn.now) (state g.S.Store c.migrate.new.conn) version earlier has (c.migrate.ensures.migrates.crash version earlier has)

pub returns-clause-crash : goal.returns-clause-crash
returns-clause-crash g c version earlier has =
    let printed = subst (λ cells. PrintEach (λ key. PrintsSlot None) cells (all_of c.args.rows.now.maps.slots)) (sym c.deref.ensures.value) c.in-Ok.ensures in
    survives_migrated c.args.rows.now.maps c.head.result c.deref.result.now c.head.ensures printed (state g.S.Store c.args.conn.now) (state g.S.Store c.migrate.new.conn) version earlier has (c.migrate.ensures.migrates.crash version earlier has)

pub returns-in-Ok-migrate-clause-rests : goal.returns-in-Ok-migrate-clause-rests
returns-in-Ok-migrate-clause-rests g c clean tables rests earlier shown =
    let printed = subst (λ cells. PrintEach (λ key. PrintsSlot None) cells (all_of c.args.rows.now.maps.slots)) (sym c.deref.ensures.value) c.in-Ok.ensures in
    rests_migrated c.args.rows.now.maps c.head.result c.deref.result.now c.head.ensures printed (state g.S.Store c.args.conn.now) (state g.S.Store c.migrate.new.conn) tables rests earlier (c.in-Ok-migrate.ensures.migrates.migrated clean tables rests earlier) (c.in-Ok-migrate.ensures.migrates.emptied clean tables rests earlier) shown
