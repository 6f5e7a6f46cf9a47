use Rattle.moo_run_lines.proofs.Reporting.{writes_made}
use Rattle.moo_run_lines.proofs.output.put_damage.Goals as goal

pub returns : goal.returns
returns g c =
    writes_made c.damaged_text.result (λ text. text.bytes.items) _ c.status.result 3 (g.W.Write.contents c.args.output.now) (g.W.Write.contents c.put_made_line.new.output) c.put_made_line.result
    c.status.ensures c.damaged_text.ensures c.put_made_line.ensures
