use Rattle.moo_text.proofs.Headers.{object_taken, object_again}
use Rattle.moo_text.proofs.text_laws.objects_are_spelled.Goals as goal

pub returns : goal.returns
returns c word object = (object_taken word object, λ spelled. object_again word object spelled.0 spelled.1)
