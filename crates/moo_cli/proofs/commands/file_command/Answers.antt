use Rattle.moo_cli.proofs.Adding.{with_arg, stays_local}
use Rattle.moo_cli.proofs.commands.file_command.Goals as goal

pub returns-clause-shape : goal.returns-clause-shape
returns-clause-shape c = with_arg _ _ c.arg.result _ _ c.arg.ensures c.new_command.ensures.shape c.text_arg.ensures.rule c.text_arg.ensures.local

pub returns-clause-local : goal.returns-clause-local
returns-clause-local c = stays_local c.arg.result _ _ c.arg.ensures c.new_command.ensures.local c.text_arg.ensures.local
