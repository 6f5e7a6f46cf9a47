use Rattle.moo_desk.specs.Deeds.{Keep, book_of}
use Rattle.moo_desk.proofs.held.Held.send_all.Given as goal

abbrev pub invariant-loop : goal.invariant-loop
invariant-loop g l = Keep 0 (book_of l.fn.self) (book_of l.self)
