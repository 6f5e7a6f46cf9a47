use Rattle.moo_http_request.proofs.Words.{refl, service_rows}
use Rattle.moo_http_request.proofs.laws.routes_are_known.Goals as goal
use Rattle.matchit.proofs.OnLiterals.{matchit_on_literals}

pub returns : goal.returns
unfolding matchit_on_literals service_rows
returns c = record { batch = refl; ask = refl; each = refl; seq = refl; object = refl; topics = refl; deeper = refl; bare = refl; unknown = refl; root = refl; empty = refl }
