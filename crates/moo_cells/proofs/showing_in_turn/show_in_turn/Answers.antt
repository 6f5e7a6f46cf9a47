use Rattle.moo_cells.{proofs.Words.{List, refl, subst, entries, Row, Head, ShowEach, by_rowid, HoldsHead, ReadsCounter, ReadsPetition}, proofs.FillLemmas.{petitions_keep}, proofs.TakenLemmas.{taken_shown}}
use Rattle.moo_cells.proofs.showing_in_turn.show_in_turn.Goals as goal

pub returns-clause-shown : goal.returns-clause-shown
returns-clause-shown g c clean all tables was is =
    let m = c.args.rows.now.maps in
    let version = c.args.version in
    let read = subst (λ h. HoldsHead version c.deref-4.result.now h) c.head.ensures (c.if-not-shows_head.ensures.head refl) in
    let head = subst (λ (rows : List Row). HoldsHead version rows m.head) c.deref-4.ensures.value read in
    let counted = subst (λ (h : Head). ReadsCounter version (by_rowid c.deref-5.result.now) h.next_petition) c.head.ensures (c.if-not-shows_head.ensures.counter refl) in
    let next = subst (λ (rows : List Row). ReadsCounter version (by_rowid rows) m.head.next_petition) c.deref-5.ensures.value counted in
    let each = subst (λ (rows : List Row). ShowEach (ReadsPetition version) rows (entries m.petitions)) c.deref-6.ensures.value (c.if-not-are_shown.ensures refl) in
    taken_shown (c.in_ok-all.ensures.shown all) c.in_ok-head.head c.in_ok-head.petition c.in_ok-head.petition_head m head next refl
    ((petitions_keep version).shown c.in_ok-head.petition.items m.petitions each)
    c.in_ok-head.ensures.reads.read c.in_ok-head.ensures.listed c.in_ok-all.ensures.reads.read clean tables was is
