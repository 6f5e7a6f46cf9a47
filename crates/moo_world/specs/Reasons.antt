-- The error with which a call fails at each check.
use Rattle.moo_value.specs.declared.code.Code.{Code}
use Rattle.moo_world.specs.Codes.{E_TYPE, E_PERM, E_PROPNF, E_VERBNF, E_INVIND, E_RECMOVE, E_NACC, E_INVARG, E_QUOTA}
use Rattle.moo_world.specs.declared.reason.Reason.{Reason}
use Rattle.moo_world.specs.declared.reason.Reason.TheVariants.{Given, NoProgrammer, NoWizard, NoObject, NoTarget, NoPlace, NoParent}
use Rattle.moo_world.specs.declared.reason.Reason.TheVariants.{NotControlled, NotFertile, NoOwner, NoObjectR, NoObjectW, ParentBelow}
use Rattle.moo_world.specs.declared.reason.Reason.TheVariants.{NameShared, NotAccepted, PlaceInside, NoQuota, NeverSet, NotTaken}
use Rattle.moo_world.specs.declared.reason.Reason.TheVariants.{NamesPlayer, NoProperty, NotDefined, NotRenamed, NotInherited}
use Rattle.moo_world.specs.declared.reason.Reason.TheVariants.{NoPropertyName, NameTaken, NoPropertyR, NoPropertyW, NotGiven}
use Rattle.moo_world.specs.declared.reason.Reason.TheVariants.{PropertyPerms, NoVerb, NoVerbR, NoVerbW, VerbPerms, VerbNames, VerbArgs}
use Rattle.moo_world.specs.declared.reason.Reason.TheVariants.{LongList, Unnamed, NotFew, Unasked, Deep, NoPetition, NotAsker}

-- the error with which a call fails for a reason
abbrev pub error_of : Reason → Code
error_of (Given code) = code
error_of NoProgrammer = E_PERM
error_of NoWizard = E_PERM
error_of (NoObject x) = E_INVARG
error_of (NoTarget x) = E_INVIND
error_of (NoPlace x) = E_INVARG
error_of (NoParent x) = E_PERM
error_of (NotControlled x) = E_PERM
error_of (NotFertile x) = E_PERM
error_of (NoOwner x) = E_PERM
error_of (NoObjectR x) = E_PERM
error_of (NoObjectW x) = E_PERM
error_of (ParentBelow x) = E_RECMOVE
error_of (NameShared definer) = E_INVARG
error_of (NotAccepted x) = E_NACC
error_of (PlaceInside x) = E_RECMOVE
error_of (NoQuota x) = E_QUOTA
error_of NeverSet = E_PERM
error_of NotTaken = E_TYPE
error_of (NamesPlayer x) = E_PERM
error_of (NoProperty x) = E_PROPNF
error_of (NotDefined x) = E_PROPNF
error_of (NotRenamed x) = E_INVARG
error_of (NotInherited x) = E_INVARG
error_of NoPropertyName = E_INVARG
error_of (NameTaken definer) = E_INVARG
error_of (NoPropertyR x) = E_PERM
error_of (NoPropertyW x) = E_PERM
error_of (NotGiven x) = E_PERM
error_of PropertyPerms = E_INVARG
error_of (NoVerb x) = E_VERBNF
error_of (NoVerbR x) = E_PERM
error_of (NoVerbW x) = E_PERM
error_of VerbPerms = E_INVARG
error_of VerbNames = E_INVARG
error_of VerbArgs = E_INVARG
error_of LongList = E_INVARG
error_of Unnamed = E_TYPE
error_of NotFew = E_INVARG
error_of Unasked = E_INVARG
error_of Deep = E_INVARG
error_of NoPetition = E_INVARG
error_of NotAsker = E_PERM
