use Rattle.moo_dump.{proofs.Words.{arith, ◌≡◌, ◌++◌, List, ℕ, take, sym, ap, ◌∙◌, rules, entries, flat_map, err_from_is_err_and, ObjNo, ObjRow, objects_left, world_of, object_lines, objects_text}, proofs.Compared.{fault_at, next_compared}, proofs.ObjectLines.{objects_printed}}
use Rattle.moo_dump.proofs.comparing.after_objects.Goals as goal

pub loop-x-init : goal.loop-x-init
loop-x-init g c = grind (arith, objects_printed)

pub returns-in_err-at-clause-err : goal.returns-in_err-at-clause-err
returns-in_err-at-clause-err g c =
    let t = (g.R.Rows.held c.args.rows.now).maps in
    let lines : ObjNo × ObjRow → List ℕ = λ e. object_lines (world_of t) e.0 in
    let p = err_from_is_err_and c.from_residual-in_err-at.result c.from_residual-in_err-at.ensures.1 in
    rw p.1 (fault_at (take c.args.start c.args.text.now) (objects_text t) (take c.loop-x.at c.args.text.now) _ (object_lines (world_of t) c.in-Some.x) (flat_map lines (objects_left c.next.new.self.last (g.R.Rows.held c.next.new.self.rows.now).maps)) c.args.text.now c.deref.result.now c.in_err-at.field-0.0 p.0
    c.loop-x.invariant.compared (ap (flat_map lines) c.in-Some.ensures.steps) (c.deref.ensures.value ∙ c.in_ok-piece.ensures) p.2 c.in_err-at.ensures.err)

pub loop-x-preserved : goal.loop-x-preserved
loop-x-preserved g c = grind (arith, next_compared)
