use Rattle.moo_dump.{proofs.Words.{arith, take, ap, ◌∙◌, flat_map, err_from_is_err_and, petitions_left, petition_line, petitions_text}, proofs.Compared.{fault_at, next_compared}}
use Rattle.moo_dump.proofs.comparing.after_petitions.Goals as goal

pub returns-in_err-at-clause-err : goal.returns-in_err-at-clause-err
returns-in_err-at-clause-err g c =
    let t = (g.R.Rows.held c.args.rows.now).maps in
    let p = err_from_is_err_and c.from_residual-in_err-at.result c.from_residual-in_err-at.ensures.1 in
    rw p.1 (fault_at (take c.args.start c.args.text.now) (petitions_text t) (take c.loop-id.at c.args.text.now) _ (petition_line (c.in-Some.id, c.in-Some.row.now)) (flat_map petition_line (petitions_left c.next.new.self.last (g.R.Rows.held c.next.new.self.rows.now).maps)) c.args.text.now c.deref.result.now c.in_err-at.field-0.0 p.0
    c.loop-id.invariant.compared (ap (flat_map petition_line) c.in-Some.ensures.steps) (c.deref.ensures.value ∙ c.in_ok-piece.ensures) p.2 c.in_err-at.ensures.err)

pub loop-id-preserved : goal.loop-id-preserved
loop-id-preserved g c =
    record {
      within = c.in_ok-at.ensures.within;
      compared = next_compared (take c.args.start c.args.text.now) (petitions_text (g.R.Rows.held c.args.rows.now).maps) (take c.loop-id.at c.args.text.now) _ (petition_line (c.in-Some.id, c.in-Some.row.now)) (flat_map petition_line (petitions_left c.next.new.self.last (g.R.Rows.held c.next.new.self.rows.now).maps)) c.deref.result.now _
          c.loop-id.invariant.compared (ap (flat_map petition_line) c.in-Some.ensures.steps) (c.deref.ensures.value ∙ c.in_ok-piece.ensures) c.in_ok-at.ensures.ok;
    }
