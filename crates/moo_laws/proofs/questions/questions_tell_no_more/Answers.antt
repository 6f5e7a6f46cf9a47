use Rattle.moo_laws.{proofs.Asking.{questions_tell_no_more}, proofs.HiddenValues.{hidden_look_alike}}
use Rattle.moo_laws.proofs.questions.questions_tell_no_more.Goals as goal

pub returns : goal.returns
returns c = record { answers = questions_tell_no_more; hidden = λ p x n value w wf hidden. hidden_look_alike w wf p x n value hidden }
