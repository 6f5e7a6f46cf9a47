use Rattle.moo_http_response.{proofs.PageLemmas.{Listed}, specs.Pages.{before_page}}
use Rattle.std.proofs.Common.{◌-◌}
use Rattle.moo_http_response.proofs.page.page_of.Given as goal

abbrev pub invariant-loop-x : goal.invariant-loop-x
invariant-loop-x g l = Listed (g.R.Rows.held l.rows).maps (before_page l.fn.from) l.last l.count l.list.items

-- the room that is left
abbrev pub decreases-loop-x : goal.decreases-loop-x
decreases-loop-x g l = 1000 - l.count
