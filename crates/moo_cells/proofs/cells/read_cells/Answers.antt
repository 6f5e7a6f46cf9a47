use Rattle.moo_cells.proofs.Exits.{err_of}
use Rattle.moo_cells.{proofs.Words.{Option, sym, subst, IfSome, Kind, Key, IsFirstInRows, tables_of, SaysOfCells}, proofs.CellsLemmas.{rows_damage, none_met, says_nothing, says_no_damage, one_good}}
use Rattle.moo_cells.proofs.cells.read_cells.Goals as goal

pub returns-in_err-rows-clause-fault : goal.returns-in_err-rows-clause-fault
returns-in_err-rows-clause-fault c =
    err_of c.from_residual.result c.from_residual.ensures.1 (λ e is. subst (SaysOfCells (tables_of c.args.lists)) (sym is) c.in_err-rows.ensures.fault)

pub returns-in_err-rows-clause-whole : goal.returns-in_err-rows-clause-whole
returns-in_err-rows-clause-whole c m shown good =
    err_of c.from_residual.result c.from_residual.ensures.1 (λ e is. says_nothing (tables_of c.args.lists) m shown good e (subst (SaysOfCells (tables_of c.args.lists)) (sym is) c.in_err-rows.ensures.fault))

pub returns-in_err-rows-clause-undamaged : goal.returns-in_err-rows-clause-undamaged
returns-in_err-rows-clause-undamaged c known none =
    err_of c.from_residual.result c.from_residual.ensures.1 (λ e is. says_no_damage (tables_of c.args.lists) known none e (subst (SaysOfCells (tables_of c.args.lists)) (sym is) c.in_err-rows.ensures.fault))

pub returns-in-Some-clause-undamaged : goal.returns-in-Some-clause-undamaged
returns-in-Some-clause-undamaged c known none =
    let first = subst (λ (o : Option (Kind × Key)). IfSome o (λ d. IsFirstInRows c.in_ok-rows.rows.maps d.0 d.1)) c.in-Some.is c.in_ok-damage.ensures.first in
    absurd (none c.in-Some.kind c.in-Some.key (rows_damage (tables_of c.args.lists) c.in_ok-rows.rows.maps c.in_ok-rows.ensures.shown c.in_ok-rows.ensures.within c.in_ok-rows.ensures.read c.in-Some.kind c.in-Some.key first).1.1.0)

pub returns-in-Some-clause-fault : goal.returns-in-Some-clause-fault
returns-in-Some-clause-fault c =
    let first = subst (λ (o : Option (Kind × Key)). IfSome o (λ d. IsFirstInRows c.in_ok-rows.rows.maps d.0 d.1)) c.in-Some.is c.in_ok-damage.ensures.first in
    rows_damage (tables_of c.args.lists) c.in_ok-rows.rows.maps c.in_ok-rows.ensures.shown c.in_ok-rows.ensures.within c.in_ok-rows.ensures.read c.in-Some.kind c.in-Some.key first

pub returns-in-Some-clause-whole : goal.returns-in-Some-clause-whole
returns-in-Some-clause-whole c m shown good =
    let first = subst (λ (o : Option (Kind × Key)). IfSome o (λ d. IsFirstInRows c.in_ok-rows.rows.maps d.0 d.1)) c.in-Some.is c.in_ok-damage.ensures.first in
    absurd (none_met (tables_of c.args.lists) m shown good c.in-Some.kind c.in-Some.key (rows_damage (tables_of c.args.lists) c.in_ok-rows.rows.maps c.in_ok-rows.ensures.shown c.in_ok-rows.ensures.within c.in_ok-rows.ensures.read c.in-Some.kind c.in-Some.key first).1.1.0)

pub returns-in-None-clause-one : goal.returns-in-None-clause-one
returns-in-None-clause-one c m shown good = one_good (tables_of c.args.lists) c.in_ok-rows.rows.maps m c.in_ok-rows.ensures.shown c.in_ok-rows.ensures.within shown good
