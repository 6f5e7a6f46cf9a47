use Rattle.moo_desk.specs.Deeds.{Admits, book_of}
use Rattle.moo_desk.proofs.desk.DeskArrivals.accept.Given as goal

abbrev pub invariant-loop : goal.invariant-loop
invariant-loop g l = Admits 0 (book_of l.fn.self.held, g.G.Gate.gave l.fn.self.gate) (book_of l.self.held, g.G.Gate.gave l.self.gate)
