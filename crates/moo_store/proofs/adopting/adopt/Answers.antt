use Rattle.moo_store.{proofs.Words.{Some, refl, sym, ap, subst, state, HasCleanDisk, Survives, Adopts, World, Moment, rows_alone, unread_of}}
use Rattle.moo_store.proofs.adopting.adopt.Goals as goal

pub returns-in-Ok : goal.returns-in-Ok
returns-in-Ok g c =
    let brought = c.in-Ok.ensures.brings in
    let old = state g.S.Store c.args.conn in
    let new = c.open_rows.new.conn in
    let world = c.over.result in
    let is = c.over.ensures.is in
    let connection = ap (λ (w : World _). w.connection) is in
    let same = ap (λ (w : World _). w.rows.maps) is in
    record {
      adopts = record {
        ours = brought.ours;
        unseen = c.over.ensures.stands (rows_alone world.rows.maps) same (λ clean. tt);
        seen = λ tables rests late.
            let clean = subst (λ h. HasCleanDisk (state g.S.Store h)) connection late in
            let it = brought.rests tables rests clean in
            let m : Moment = record { rows = c.in-Ok.rows.maps; cells = Some (record { tables = tables; unread = unread_of old.now.trees }) } in
            let now : Moment = record { rows = c.in-Ok.rows.maps; cells = Some (record { tables = it.tables; unread = unread_of (state g.S.Store new).now.trees }) } in (
              m,
              now,
              record { rests = rests; shows = brought.shown tables rests clean; are = refl },
              (refl, (record { tables = it.tables; unread = unread_of (state g.S.Store new).now.trees }, refl, it.became, it.shows, it.unread)),
              c.over.ensures.stands now refl (λ _. (it.rests, it.became.current, it.shows, refl)),
            );
        crash = subst (λ h. Survives old (state g.S.Store h) (Adopts old)) (sym connection) brought.crash;
      };
    }
