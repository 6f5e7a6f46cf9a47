use Rattle.moo_http_response.proofs.respond.reply_response.Goals as goal

pub returns-in-NoMemory : goal.returns-in-NoMemory
returns-in-NoMemory c = rw c.in-NoMemory.is c.no_memory_response.ensures
