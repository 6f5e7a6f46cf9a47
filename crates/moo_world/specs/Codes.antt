-- The errors, by the names that MOO code has for them.
pub use Rattle.moo_value.specs.declared.code.Code.{Code}
pub use Rattle.moo_value.specs.declared.code.Code.TheVariants.{None as E_NONE, «Type» as E_TYPE, Division as E_DIV, Permission as E_PERM}
pub use Rattle.moo_value.specs.declared.code.Code.TheVariants.{PropertyNotFound as E_PROPNF, VerbNotFound as E_VERBNF}
pub use Rattle.moo_value.specs.declared.code.Code.TheVariants.{VariableNotFound as E_VARNF, InvalidIndirection as E_INVIND}
pub use Rattle.moo_value.specs.declared.code.Code.TheVariants.{RecursiveMove as E_RECMOVE, MaxRecursion as E_MAXREC, Range as E_RANGE}
pub use Rattle.moo_value.specs.declared.code.Code.TheVariants.{Arguments as E_ARGS, NotAccepted as E_NACC, InvalidArgument as E_INVARG}
pub use Rattle.moo_value.specs.declared.code.Code.TheVariants.{Quota as E_QUOTA, Float as E_FLOAT}
