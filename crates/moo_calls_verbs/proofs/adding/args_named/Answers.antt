use Rattle.std.{proofs.Common.{◌≡◌, Option, None, Some, refl, ap, ◌∙◌}, specs.Option.{ok_or}, specs.Result.{result_ok}}
use Rattle.moo_verbs.specs.declared.fault.VerbFault.TheVariants.{BadArgs}
use Rattle.moo_world.specs.VerbReading.{args_of}
use Rattle.moo_calls_verbs.proofs.adding.args_named.Goals as goal

ok_of : {A E : Type 0} (o : Option A) (e : E) → result_ok (ok_or o e) ≡ o
ok_of None e = refl
ok_of (Some a) e = refl

pub returns : goal.returns
returns c = c.ok.ensures.value ∙ ap result_ok c.read_args.ensures ∙ ok_of (args_of c.args.args.dobj.now c.args.args.prep.now c.args.args.iobj.now) BadArgs
