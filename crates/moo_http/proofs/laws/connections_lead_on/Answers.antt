use Rattle.moo_http.proofs.Leading.{attended_leads}
use Rattle.moo_http.proofs.laws.connections_lead_on.Goals as goal

pub returns : goal.returns
returns g c = record {
  leads = λ m answered failed old new from to attended before.
      attended_leads m g.A.Arrivals g.A.Reader.Read g.A.Reader.Incoming.fails g.A.Writer.Write answered failed old from new to attended before;
}
