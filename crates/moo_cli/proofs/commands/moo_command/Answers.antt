use Rattle.std.specs.Prelude.{codes, true}
use Rattle.clap.specs.Simple.{App, new_app, on_top, with_rule, with_subcommand}
use Rattle.moo_cli.specs.Commands.{text_rule, file_app, batches_app, running_app, serve_app}
use Rattle.moo_cli.proofs.commands.moo_command.Goals as goal

-- the program without its commands
abbrev bare : App
bare = on_top (λ s. record s { has_version = true; subcommand_required = true }) (new_app (codes "moo"))

abbrev loading : App
loading = with_rule (file_app (codes "load")) (text_rule (codes "DUMP"))

-- the program with some of its commands
abbrev one : App
one = with_subcommand bare (file_app (codes "init")).top

abbrev two : App
two = with_subcommand one (running_app (codes "apply")).top

abbrev three : App
three = with_subcommand two (running_app (codes "rehearse")).top

abbrev four : App
four = with_subcommand three (batches_app (codes "ask")).top

abbrev five : App
five = with_subcommand four (file_app (codes "dump")).top

abbrev six : App
six = with_subcommand five loading.top

abbrev seven : App
seven = with_subcommand six (file_app (codes "check")).top

pub returns : goal.returns
returns c =
    let is_one = c.with_command-program.ensures bare (file_app (codes "init")) c.program.ensures c.file_command-command.ensures.shape in
    let is_two = c.with_command-program-2.ensures one (running_app (codes "apply")) is_one c.running_command-command.ensures.shape in
    let is_three = c.with_command-program-3.ensures two (running_app (codes "rehearse")) is_two c.running_command-command-2.ensures.shape in
    let is_four = c.with_command-program-4.ensures three (batches_app (codes "ask")) is_three c.batches_command-command.ensures.shape in
    let is_five = c.with_command-program-5.ensures four (file_app (codes "dump")) is_four c.file_command-command-2.ensures.shape in
    let is_six = c.with_command-program-6.ensures five loading is_five c.load_command.ensures.shape in
    let is_seven = c.with_command-program-7.ensures six (file_app (codes "check")) is_six c.file_command-command-3.ensures.shape in
    c.with_command.ensures seven serve_app is_seven c.serve_command.ensures.shape
