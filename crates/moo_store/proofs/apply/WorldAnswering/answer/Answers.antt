use Rattle.moo_store.proofs.Words.{sym, subst, MovesBy, RunsAt}
use Rattle.moo_store.proofs.apply.WorldAnswering.answer.Goals as goal

pub returns : goal.returns
returns g c = subst (λ a. MovesBy g.S.Store c.args.self.now c.run_one.new.self (λ from to. RunsAt from c.args.batch.now a to)) (sym c.answer_to.ensures) c.run_one.ensures.moves
