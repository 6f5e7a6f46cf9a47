use Rattle.moo_text.proofs.Headers.{header_taken, header_again}
use Rattle.moo_text.proofs.text_laws.headers_are_spelled.Goals as goal

pub returns : goal.returns
returns c line header = (header_taken line header, header_again line header)
