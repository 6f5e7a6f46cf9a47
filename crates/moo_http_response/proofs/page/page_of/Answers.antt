use Rattle.moo_http_response.{proofs.PageLemmas.{none_listed, one_listed, paged}, specs.Pages.{before_page}}
use Rattle.moo_http_response.proofs.page.page_of.Goals as goal

pub loop-x-init : goal.loop-x-init
loop-x-init g c =
    none_listed (g.R.Rows.held c.args.rows.now).maps (before_page c.args.from) c.before_page-last.result c.new-list.result.items c.before_page-last.ensures c.new-list.ensures.items

pub loop-x-preserved : goal.loop-x-preserved
loop-x-preserved g c =
    one_listed (g.R.Rows.held c.args.rows.now).maps (before_page c.args.from) c.loop-x.last c.in-Some.x c.loop-x.count c.loop-x.list.items c.list_object.new.list.items
    c.loop-x.invariant c.in-Some.ensures.0 c.in-Some.ensures.1 c.in_ok-list_object.ensures

pub returns : goal.returns
returns g c =
    paged (g.R.Rows.held c.args.rows.now).maps c.requires c.args.from c.loop-x.last c.loop-x.count c.from_vec.result c.loop-x.list.items c.next_object.result
    c.from_vec.ensures c.loop-x.invariant c.in_default.ensures c.next_object.ensures
