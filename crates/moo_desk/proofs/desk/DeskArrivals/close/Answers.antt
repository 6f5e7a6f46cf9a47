use Rattle.std.proofs.Common.{refl}
use Rattle.moo_desk.proofs.desk.DeskArrivals.close.Goals as goal

pub returns-clause-back : goal.returns-clause-back
returns-clause-back g c =
    (c.args.closing, c.args.route, (_, record { reader = refl; writer = refl; stage = refl; closes = refl; asks = refl }, c.hold.ensures.all, c.hold.ensures.gate))
