use Rattle.moo_store.{proofs.Words.{refl, sym, subst, state, IsGood}, specs.Moment.{Moment}, proofs.Moments.{moment_left}}
use Rattle.moo_store.proofs.world.World.over.Goals as goal

pub returns-clause-stands : goal.returns-clause-stands
returns-clause-stands g c m is rests = record {
  failed = refl;
  good = λ t same. subst (λ (x : Moment). IsGood x.rows) (sym same) (subst IsGood (sym is) c.requires.good);
  rows = λ _. sym is;
  rests = λ clean opened. rests clean;
  crash = λ clean some trees lies. (m, refl, moment_left (state g.S.Store c.args.connection) m (g.met.S.Store.settled c.args.connection.store) (rests clean) some trees lies);
}
