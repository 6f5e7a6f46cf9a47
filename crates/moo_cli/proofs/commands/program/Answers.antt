use Rattle.std.proofs.Common.{ap, ◌∙◌, true}
use Rattle.clap.specs.Simple.{App, app_of_fields, on_top}
use Rattle.moo_cli.proofs.commands.program.Goals as goal

abbrev versioned : App → App
versioned app = on_top (λ s. record s { has_version = true }) app

abbrev required : App → App
required app = on_top (λ s. record s { subcommand_required = true }) app

pub returns : goal.returns
returns c =
    ap app_of_fields c.subcommand_required.ensures
    ∙ ap required (ap app_of_fields c.version.ensures ∙ ap versioned c.new_command.ensures.shape)
