use Rattle.moo_http_response.proofs.told.tell.Goals as goal

pub page_of-requires : goal.page_of-requires
page_of-requires g c = c.requires.formed.tree
