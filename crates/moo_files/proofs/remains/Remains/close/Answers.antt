use Rattle.moo_files.{proofs.Words.{refl, LeavesState, IsKept}, proofs.RemainsLemmas.{keeps_closed, blank_closed, spares_closed}, specs.Closing.{IsClosedFrom}}
use Rattle.moo_files.specs.declared.remains.Remains.TheVariants.{Leftover}
use Rattle.moo_files.proofs.remains.Remains.close.Goals as goal

pub returns-in-Connection : goal.returns-in-Connection
returns-in-Connection g c =
    let it = c.close_connection.ensures in
    let closed : IsClosedFrom c.args.self (Leftover c.close_connection.result) = rw c.in-Connection.is (c.close_connection.result, refl, it.copied, λ clean. (it.clean clean, it.left clean, it.numbered clean, it.numbers clean)) in
    record {
      closed = closed;
      state = λ image s. keeps_closed (λ trees. LeavesState trees s) image c.args.self _ closed;
      trees = λ image trees. keeps_closed (IsKept trees) image c.args.self _ closed;
      blank = λ image. blank_closed (λ _. ⊥) image c.args.self _ closed;
      spared = λ image none. spares_closed image c.args.self _ closed none;
    }
