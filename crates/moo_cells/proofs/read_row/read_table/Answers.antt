use Rattle.moo_cells.{proofs.Words.{rules, Damaged, BadCell, ◌≡◌, ◌∷◌, [], ◌++◌, sym, length, ap, subst, ◌∙◌, arith, into_iter_items, into_iter_len}, proofs.Table.{takes_next, takes_on, took_all}, proofs.Within.{taken}}
use Rattle.moo_cells.proofs.read_row.read_table.Goals as goal

pub loop-row-init : goal.loop-row-init
loop-row-init g c =
    let it = c.into_iter-row-iterator.result in
    let left : into_iter_len it ≡ length (into_iter_items it) = search rules in
    let m = c.args.rows.now.maps in
    record { whole = c.into_iter-row-iterator.ensures.into_iter_gives.0; left = left; holds = c.requires.keeps.none (g.R.KeyedRow.map_of m) c.requires.none; kept = sym (g.met.R.KeyedRow.own_map m) }

pub loop-row-preserved : goal.loop-row-preserved
loop-row-preserved g c =
    let at = c.loop-row in
    let steps : into_iter_items at.row-iterator ≡ c.in-Some.row ∷ into_iter_items c.next.new.self = c.in-Some.ensures.steps.0 in
    let was = at.invariant.left in
    let gone = c.in-Some.ensures.steps.1 in
    let short = ap length steps in
    let whole = takes_on at.yielded at.invariant.whole steps in
    let new = g.R.KeyedRow.map_of c.take_row.new.rows.maps in
    let apart = c.requires.keeps.front (at.yielded ++ c.in-Some.row ∷ []) (into_iter_items c.next.new.self) (subst g.R.ReadRow.apart (sym whole) c.requires.apart) in record {
      whole = whole;
      left = omega arith;
      holds = c.requires.keeps.more at.yielded c.in-Some.row _ new apart at.invariant.holds c.in-Ok.ensures.ok;
      kept = c.in-Ok.ensures.kept ∙ ap (λ m. g.R.KeyedRow.with_map m new) at.invariant.kept ∙ g.met.R.KeyedRow.last_map c.args.rows.now.maps _ new;
    }

pub returns : goal.returns
returns g c =
    let all = took_all c.loop-row.yielded (into_iter_items c.loop-row.row-iterator) c.loop-row.invariant.whole (sym c.loop-row.invariant.left ∙ c.in-None.ensures.steps.0) in
    search rules

pub returns-in-Err-Unreadable-clause-fault : goal.returns-in-Err-Unreadable-clause-fault
returns-in-Err-Unreadable-clause-fault g c order =
    let at = c.loop-row in
    let next = takes_next at.yielded at.invariant.whole c.in-Some.ensures.steps.0 in
    let unread = c.in-Err-Unreadable.ensures.err c.in-Err-Unreadable.field-0-is in
    subst (λ l. g.R.ReadRow.unread c.args.version l (Damaged BadCell c.key_of.result)) next
    (c.requires.keeps.first at.yielded c.in-Some.row _ _ c.key_of.result (subst g.R.ReadRow.in_order (sym next) order) at.invariant.holds unread c.key_of.ensures)

pub key_of-requires : goal.key_of-requires
key_of-requires g c = taken g.R.ReadRow.whole c.loop-row.yielded (c.requires.keeps.whole c.args.cells.items c.requires.apart) c.loop-row.invariant.whole c.in-Some.ensures.steps.0

pub returns-in-Err-OutOfMemory-clause-fault : goal.returns-in-Err-OutOfMemory-clause-fault
returns-in-Err-OutOfMemory-clause-fault g c order = c.requires.keeps.memory c.args.cells.items
