use Rattle.moo_text.proofs.Calls.{call_taken, call_again}
use Rattle.moo_text.proofs.text_laws.calls_are_spelled.Goals as goal

pub returns : goal.returns
returns c line call = (call_taken line call, call_again line call)
