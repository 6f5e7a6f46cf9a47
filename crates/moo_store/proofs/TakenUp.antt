-- What a crash left of a World, opened again.
use Rattle.moo_store.{proofs.Words.{rules, ◌≡◌, ◌∙◌, Some, IsSome, refl, sym, ap, subst, Ghosts, Held, state, HasCleanDisk, IsGood, state_of, World, store_of, StoreFault, MayOpenAs, Rests, ShowsRows, IsOfStore, unread_of, Stands, AllCells, Moment, BecomesPresent, Place, Works, MayBeLeft, moment_of}, specs.Opening.{IsAdopted}, specs.OpeningRows.{IsUnadopted}, proofs.OpenLemmas.{refused_of_store}}
use Rattle.moo_tables.proofs.ReopenLemmas.{opened}
use Rattle.moo_cells.{proofs.CellsLemmas.{one_good}, proofs.GoodRows.{good_within}}

module _ {S T : Type 0} (g : Ghosts S) (h : Ghosts T) (crashed : World S) (place : Place) (found : Held T) where
  -- a moment that may be left, in a connection
  pub record IsLeft : Type 0 where
    pub m : Moment
    pub may : MayBeLeft place m
    pub good : IsGood m.rows
    pub cells : AllCells
    pub are : m.cells ≡ Some cells
    pub rests : Rests (state h found) cells.tables
    pub shows : ShowsRows cells.tables m.rows
    pub unread : unread_of (state h found).now.trees ≡ cells.unread

  pub left_in : Stands g crashed place → IsSome (moment_of place).cells → MayOpenAs (store_of g crashed) (state h found) → IsLeft
  left_in stands known may =
      let it = stands.crash may.was_clean known (state h found).now.trees may.found in
      record {
        m = it.0;
        may = it.1;
        good = stands.good it.0 it.1;
        cells = it.2.0;
        are = it.2.1;
        rests = opened (state h found) it.2.0.tables may.opens may.sound it.2.2;
        shows = it.2.3;
        unread = it.2.4;
      }

  -- a World that is opened over it works at it, brought to the present version
  pub taken_up : (world : World T) → IsLeft → IsAdopted h (state h found) world → HasCleanDisk (store_of h world) → (m now : Moment) × MayBeLeft place m × IsSome m.cells × BecomesPresent m now × Stands h world (Works now)
  taken_up world left it clean =
      let new = it.seen left.cells.tables left.rests clean in
      let good : IsGood new.0.rows = subst IsGood new.3.0 (new.4.good new.1 refl) in
      let rows = one_good left.cells.tables left.m.rows new.0.rows left.shows (good_within left.m.rows left.good) new.2.shows good in
      let cells = left.are ∙ ap (λ u. Some (record { tables = left.cells.tables; unread = u })) (sym left.unread) ∙ sym new.2.are in
      (left.m, new.1, left.may, subst IsSome (sym left.are) refl, subst (λ m. BecomesPresent m new.1) (λ i. record { rows = sym rows i; cells = sym cells i }) new.3, new.4)

  -- if none is opened, nothing is wrong with it
  pub refused_left : (fault : StoreFault) (last : Held T) → IsLeft → IsUnadopted h found fault last → HasCleanDisk (state h last) → IsOfStore fault
  refused_left fault last left it clean = refused_of_store h found last fault it (state_of left.m.rows) (search rules) clean
