-- What the texts of a call show the model.
use Rattle.moo_world.specs.Objects.{Name}
use Rattle.moo_world.specs.Arguments as arguments
use Rattle.moo_calls_shared.specs.{declared.infos.Info.{Info}, declared.verb_args.VerbInfo.{VerbInfo}}
use Rattle.moo_calls_shared.specs.declared.verb_args.ArgTexts.{ArgTexts}

-- an owner and the letters of rights
abbrev pub info_shown : Info → arguments.Info
info_shown info = (info.owner, info.perms.now)

-- the owner and the letters of the rights of a verb, and its names
abbrev pub verb_info_shown : VerbInfo → arguments.Info × Name
verb_info_shown verb = (info_shown verb.info, verb.names.now)

-- the texts of a verb's arguments: the direct object, the preposition and the indirect object
abbrev pub args_shown : ArgTexts → Name × Name × Name
args_shown args = (args.dobj.now, args.prep.now, args.iobj.now)
