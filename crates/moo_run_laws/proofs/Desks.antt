-- From what the service sees of a connection of a desk to what its peer sees.
use Rattle.std.{proofs.Common.{◌≡◌, ◌⊎◌, inl, inr, ℕ, List, [], drop, refl, sym, ap, subst, ◌∙◌, arith}, specs.Io.KnownBytes.{Keeps, append_known, prepend_known}, proofs.KnownBytes.{Keeps-refl}}
use Rattle.std.proofs.Math.ListN.{drop_of_length-le}
use Rattle.std.specs.declared.io.Read as Reading
use Rattle.std.specs.declared.io.Write as Writing
use Rattle.moo_arrivals.specs.declared.arrivals.Connection.{Connection}
use Rattle.moo_http_request.specs.Given.{HasFailed}
use Rattle.moo_http_request.specs.declared.incoming.Incoming as Incoming
use Rattle.moo_desk.specs.declared.gate.Inward as Inward
use Rattle.moo_desk.specs.declared.gate.Outward as Outward
use Rattle.moo_desk.{specs.Broken.{IsBroken}, specs.declared.gathered.Coming.TheVariants.{Unread}, specs.declared.gathered.Gathered.{Gathered}, specs.declared.leaving.Leaving.{Leaving}, specs.declared.outgoing.Outgoing.{Outgoing}, specs.declared.slot.Slot.{Slot}}
use Rattle.moo_http.{specs.Traffic.{traffic_of}, specs.Through.{Passes}}
use Rattle.moo_run_laws.specs.Desk.{PassesDesk, IsAsker, peer_of}

drop_none : (n : ℕ) (bytes : List ℕ) → bytes ≡ [] → drop n bytes ≡ []
drop_none n bytes none = ap (drop n) none ∙ drop_of_length-le [] (omega arith)

module _ {R W : Type 0} {inward : Inward.Ghosts R} {incoming : Incoming.Ghosts R} {reader : Reading.Ghosts R} {outward : Outward.Ghosts W} {writer : Writing.Ghosts W} (gathered : Reading.Ghosts (Gathered R)) (outgoing : Writing.Ghosts (Outgoing W)) where
  -- if what a `Gathered` has left and what an `Outgoing` has are these
  pub passes_desk : (came slot : Slot R W inward incoming reader outward writer) (opened closed : Connection (Gathered R) (Outgoing W)) (back last : Leaving R W) → PassesDesk came slot opened closed back last
      → ((it : Gathered R) → gathered.remaining it ≡ prepend_known (drop it.at it.bytes.items) (reader.remaining it.reader)) → ((it : Outgoing W) → outgoing.contents it ≡ append_known (writer.contents it.writer) (drop it.sent it.text.items))
      → Passes (peer_of gathered came closed last) (traffic_of gathered outgoing opened closed) (drop last.writer.sent last.writer.text.items)
  passes_desk came slot opened closed back last it left has =
      let start : prepend_known (drop came.reader.at came.reader.bytes.items) (reader.remaining came.reader.reader) ≡ prepend_known [] (reader.remaining came.reader.reader) = ap (λ bytes. prepend_known bytes (reader.remaining came.reader.reader)) (drop_none came.reader.at came.reader.bytes.items it.fresh.0) in
      let end : prepend_known (drop slot.reader.at slot.reader.bytes.items) (reader.remaining slot.reader.reader) ≡ gathered.remaining opened.reader = sym (left slot.reader) ∙ ap (λ r. gathered.remaining r) (sym it.handed.same.0) in
      let begin : outgoing.contents opened.writer ≡ append_known (writer.contents came.writer.writer) [] = ap (λ w. outgoing.contents w) (it.handed.same.1 ∙ it.gathers.answer) ∙ has came.writer ∙ ap (append_known (writer.contents came.writer.writer)) (drop_none came.writer.sent came.writer.text.items it.fresh.1) in
      let given : append_known (writer.contents back.writer.writer) (drop back.writer.sent back.writer.text.items) ≡ outgoing.contents closed.writer = sym (has back.writer) ∙ ap (λ w. outgoing.contents w) it.given.2.writer in
      record {
        gathered = subst (λ known. Keeps known (gathered.remaining opened.reader)) start (subst (λ known. Keeps (prepend_known (drop came.reader.at came.reader.bytes.items) (reader.remaining came.reader.reader)) known) end it.gathers.request);
        rest = refl;
        fresh = subst (λ known. Keeps (append_known (writer.contents came.writer.writer) []) known) (sym begin) (Keeps-refl (append_known (writer.contents came.writer.writer) []));
        sent = subst (λ known. Keeps known (append_known (writer.contents last.writer.writer) (drop last.writer.sent last.writer.text.items))) given it.sends.answer.1;
        front = it.front;
      }

pub asker_answered : {R W : Type 0} {inward : Inward.Ghosts R} {incoming : Incoming.Ghosts R} {reader : Reading.Ghosts R} {outward : Outward.Ghosts W} {writer : Writing.Ghosts W} (came slot : Slot R W inward incoming reader outward writer) (opened closed : Connection (Gathered R) (Outgoing W)) (back last : Leaving R W) → PassesDesk came slot opened closed back last → IsAsker came last
asker_answered {R} {W} {inward} {incoming} {reader} {outward} {writer} came slot opened closed back last it =
    it.sends.peer ∙ ap (λ w. outward.peer w.writer) it.given.2.writer ∙ it.kept ∙ sym it.handed.peer ∙ ap (λ r. inward.peer r.reader) it.handed.same.0 ∙ it.gathers.peer

-- if a `Gathered` fails so
pub causes_desk : {R : Type 0} (fails : R → R → Type 0) (last : Gathered R) → HasFailed (IsBroken fails) last → HasFailed fails last.reader ⊎ (last.coming ≡ Unread)
causes_desk fails last (before, broken) = elim broken.1 [ inl failed ↦ inl (before.reader, failed) | inr unread ↦ inr unread ]
