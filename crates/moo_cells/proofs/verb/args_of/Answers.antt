use Rattle.moo_cells.proofs.Exits.{whatever}
use Rattle.moo_cells.proofs.verb.args_of.Goals as goal

pub returns-in_err-dobj-clause-err : goal.returns-in_err-dobj-clause-err
returns-in_err-dobj-clause-err c = whatever c.from_residual.result (λ args has. c.in_err-dobj.ensures.err args.dobj has.dobj)

pub returns-in_err-prep-clause-err : goal.returns-in_err-prep-clause-err
returns-in_err-prep-clause-err c = whatever c.from_residual-in_err-prep.result (λ args has. c.in_err-prep.ensures.err args.prep has.prep)

pub returns-in_err-iobj-clause-err : goal.returns-in_err-iobj-clause-err
returns-in_err-iobj-clause-err c = whatever c.from_residual-in_err-iobj.result (λ args has. c.in_err-iobj.ensures.err args.iobj has.iobj)

pub returns-clause-ok : goal.returns-clause-ok
returns-clause-ok c = record { dobj = c.in_ok-dobj.ensures.ok; prep = c.in_ok-prep.ensures.ok; iobj = c.in_ok-iobj.ensures.ok }
