use Rattle.moo_cells.{proofs.Words.{List, refl, subst, entries, IfOk-weaker, Row, Head, ShowEach, by_rowid, HoldsHead, ReadsCounter, ReadsObject, ReadsProp, ReadsSlot, ReadsVerb, ReadsPetition}, proofs.Compared.{all_shown}}
use Rattle.moo_cells.proofs.comparing.show_rows.Goals as goal

pub returns : goal.returns
returns c =
    let m = c.args.rows.now.maps in
    let version = c.args.lists.now.version in
    let read = subst (λ h. HoldsHead version c.deref.result.now h) c.head.ensures (c.if-not-shows_head.ensures.head refl) in
    let head = subst (λ (rows : List Row). HoldsHead version rows m.head) c.deref.ensures.value read in
    let next = subst (λ (h : Head). ReadsCounter version (by_rowid c.deref-2.result.now) h.next_petition) c.head.ensures (c.if-not-shows_head.ensures.counter refl) in
    let counter = subst (λ (rows : List Row). ReadsCounter version (by_rowid rows) m.head.next_petition) c.deref-2.ensures.value next in
    let objects = subst (λ (rows : List Row). ShowEach (ReadsObject version) rows (entries m.objects)) c.deref-3.ensures.value (c.in_ok-show_each.ensures c.if-not-branch.false) in
    let props = subst (λ (rows : List Row). ShowEach (ReadsProp version) rows (entries m.props)) c.deref-4.ensures.value (c.in_ok-show_each-2.ensures c.if-not-branch-2.false) in
    let slots = subst (λ (rows : List Row). ShowEach (ReadsSlot version) rows (entries m.slots)) c.deref-5.ensures.value (c.in_ok-show_each-3.ensures c.if-not-branch-3.false) in
    let verbs = subst (λ (rows : List Row). ShowEach (ReadsVerb version) rows (entries m.verbs)) c.deref-6.ensures.value (c.in_ok-show_each-4.ensures c.if-not-branch-4.false) in
    IfOk-weaker c.show_each-5.result _ _ (λ show shows is.
    all_shown c.args.lists.now m c.requires head counter objects props slots verbs (subst (λ (rows : List Row). ShowEach (ReadsPetition version) rows (entries m.petitions)) c.deref-7.ensures.value (shows is))) c.show_each-5.ensures
