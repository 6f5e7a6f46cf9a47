-- What a transaction leaves of the table that isn't read.
use Rattle.moo_tables.proofs.Words.{◌≡◌, ◌⊎◌, inl, inr, true, false, IsTrue, IfErr, OnOk, Result, Ok, Err, Error, sym, ap, ◌∙◌, Trees, State, KeepsCommit, IsRolledBack, Tables, Rests, Sees, KeepsUnread, First, slot_tree, SparesUnread, restores}
use Rattle.sqlite.{specs.Steps.{FailsToCommit}, specs.Effect.{Database}}

-- the law of a store that is open: a crash leaves the last commit
abbrev pub IsSettled : State → Type 0
IsSettled s = (trees : Trees) → IsTrue s.is_open → s.may_leave trees → trees ≡ s.committed.trees

-- what a crash could leave before
unread_left : (old : State) (tables : Tables) (trees : Trees) → IsSettled old → Rests old tables → old.may_leave trees → trees (slot_tree First) ≡ old.now.trees (slot_tree First)
unread_left old tables trees settled was before = ap (λ (t : Trees). t (slot_tree First)) (settled trees was.is_open before ∙ ap (λ (db : Database). db.trees) (sym was.committed))

unread_back : (old last end : State) (tables : Tables) → KeepsCommit old last → IsRolledBack last end → IsTrue end.is_open → Rests old tables → KeepsUnread old.now end.now
unread_back old last end tables kept back opened was = ap (λ (db : Database). db.trees (slot_tree First)) ((restores old last end kept back opened).now_is ∙ sym was.committed)

-- it was undone
pub spared_back : (old last end : State) (tables : Tables) → IsSettled old → KeepsCommit old last → IsRolledBack last end → Rests old tables → ((trees : Trees) → end.may_leave trees → old.may_leave trees) → SparesUnread old end
spared_back old last end tables settled kept back was lies = record {
  kept = λ opened. unread_back old last end tables kept back opened was;
  crash = λ trees may. unread_left old tables trees settled was (lies trees may);
}

-- it was committed, or that failed
pub spared_commit : (old last end : State) (tables next : Tables) (r : Result (Unit {0}) Error) → IsSettled old → KeepsCommit old last → Sees last next → KeepsUnread old.now last.now → Rests old tables
    → OnOk r (end.now ≡ last.now) → IfErr r (FailsToCommit last end) → ((trees : Trees) → end.may_leave trees → old.may_leave trees ⊎ (trees ≡ last.now.trees)) → SparesUnread old end
spared_commit old last end tables next r settled kept seen unread was ok err lies = record {
  kept = λ opened. by r ok err opened;
  crash = λ trees may. elim (lies trees may) [
    | inl before ↦ unread_left old tables trees settled was before
    | inr is ↦ ap (λ (t : Trees). t (slot_tree First)) is ∙ unread
  ];
}
  where
    by : (r : Result (Unit {0}) Error) → OnOk r (end.now ≡ last.now) → IfErr r (FailsToCommit last end) → IsTrue end.is_open → KeepsUnread old.now end.now
    by (Ok x) ok err opened = ap (λ (db : Database). db.trees (slot_tree First)) ok ∙ unread
    by (Err e) ok (inl undone) opened = unread_back old last end tables kept undone.3 opened was
    by (Err e) ok (inr late) opened = absurd (let both : true ≡ false = sym seen.inside ∙ late.1 in cc)
