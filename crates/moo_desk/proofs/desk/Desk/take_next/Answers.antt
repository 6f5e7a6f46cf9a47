use Rattle.std.proofs.Common.{refl}
use Rattle.moo_desk.proofs.Ledgers.{admits_same, admits_then}
use Rattle.moo_desk.proofs.desk.Desk.take_next.Goals as goal

pub returns-in-One : goal.returns-in-One
returns-in-One g c = record {
  one = admits_then 1 _ _ _ c.take_one-took.ensures.one c.shed.ensures.all refl;
  none = λ not. admits_then 0 _ _ _ (c.take_one-took.ensures.none not) c.shed.ensures.all refl;
  takes = λ _.
      let comes = c.take_one-took.ensures.comes in
      (comes.0, c.take_one-took.new.self.held, comes.1, comes.2, λ _. (c.shed.ensures.few, c.shed.ensures.full), λ not. absurd (not c.in-One.is));
  waits = λ not. absurd (not (c.if-not-may_take.ensures.yes refl));
}

pub returns-in_default-clause-takes : goal.returns-in_default-clause-takes
returns-in_default-clause-takes g c _ =
    let comes = c.take_one-took.ensures.comes in
    (comes.0, c.take_one-took.new.self.held, comes.1, comes.2, λ one. absurd (c.in_default.not-One one), λ _. refl)

pub returns-in_default-clause-waits : goal.returns-in_default-clause-waits
returns-in_default-clause-waits g c not = absurd (not (c.if-not-may_take.ensures.yes refl))

pub returns-then-not-may_take-clause-one : goal.returns-then-not-may_take-clause-one
returns-then-not-may_take-clause-one g c = admits_same 1 _

pub returns-then-not-may_take-clause-none : goal.returns-then-not-may_take-clause-none
returns-then-not-may_take-clause-none g c not = admits_same 0 _
