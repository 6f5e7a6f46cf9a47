use Rattle.std.{proofs.Common.{◌≡◌, IsTrue, arith, sym, ap, subst, ◌∙◌, false, not, inl, inr}, proofs.lemmas.Bool.{or_right, true≢false, cases_Bool}}
use Rattle.sqlite_wal.{specs.Files.{outcomes}, specs.Reads.{AreClean}, specs.Recovery.{Image}, proofs.StateLemmas.{open_from}}
use Rattle.sqlite_pool.proofs.StateLemmas.{clean_is, may_leave_is}
use Rattle.sqlite_store.{specs.FileStore.{state, view}, specs.Laws.{stays_at}, proofs.StepLemmas.{quiet_then}}
use Rattle.sqlite_trees.{specs.View.{View, IsClean}, proofs.Doubt.{clean_of as sure, no_doubt}}
use Rattle.sqlite.{specs.Closing.{HoldsAlone, IsCopied}, proofs.Theorems.{copied}}
use Rattle.moo_files.proofs.ContentsLemmas.{none_below}
use Rattle.moo_files.proofs.closing.close_connection.Goals as goal

-- the log was copied
pub returns-in-Ok : goal.returns-in-Ok
returns-in-Ok g c =
    let copied : AreClean g.D.Disk c.close.result.log c.close.result.db → IsCopied c.args.conn c.close.result = (λ honest.
    let back = c.into_store-store.result in
    let before = c.rollback.new.self in
    let last = c.checkpoint.new.self in
    let q = c.checkpoint.ensures.quiet in
    let stays = g.met.D.Disk.seen_may_stay in
    let sure_now = subst (λ p. AreClean g.D.Disk p.0 p.1) c.close.ensures honest in
    let none : IsClean (view last) = no_doubt _ (clean_is last.pool ∙ sure_now) in
    let clean : IsClean (view before) = omega (arith, q.clean) in
    let early : IsClean (view back) = omega (arith, c.rollback.ensures.quiet.clean) in
    let h = open_from (state before) c.in-Ok.ensures.ready (sure (view before).is_clean clean) in
    let second = c.rollback.ensures.undone.kept clean in
    let first = c.into_store-store.ensures.undone.kept early in
    let on = c.in-Ok.ensures.open none in
    let same = c.checkpoint.ensures.same on in
    let numbered : IsTrue (view last).is_numbered = ap (λ (v : View). v.is_numbered) same ∙ second.numbered ∙ c.into_store-store.ensures.numbered early in
    let committed : (view last).committed ≡ (view c.args.conn.store).committed = ap (λ (v : View). v.committed) same ∙ second.committed h ∙ first.committed (second.was_open h) in
    let each = λ (image : Image) (may : outcomes g.D.Disk c.close.result.log c.close.result.db image).
    subst (HoldsAlone image) committed (copied last stays on numbered
    (λ db found. c.into_store-store.ensures.sound early db (c.rollback.ensures.quiet.outcomes db (q.outcomes db found)))
    (c.in-Ok.ensures.moved (c.rollback.ensures.logged (second.was_open h))) image
    (may_leave_is last.pool image sure_now (subst (λ p. outcomes g.D.Disk p.0 p.1 image) c.close.ensures may))) in
    record {
      was_clean = omega (arith, c.into_store-store.ensures.quiet.clean);
      was_open = first.was_open (second.was_open h);
      seen = each _ (stays _, stays _);
      left = each;
    }) in
    record {
      clean = λ clean. (copied clean).was_clean;
      left = λ clean.
          let it = copied clean in
          let stays = stays_at c.args.conn.store g.met.D.Disk.seen_may_stay it.was_open in
          (record { trees = _; holds = it.seen.both; such = stays }, λ found lies. record { trees = _; holds = (it.left found lies).both; such = stays });
      copied = copied;
      numbered = λ honest.
          let none = no_doubt _ (clean_is c.checkpoint.new.self.pool ∙ subst (λ p. AreClean g.D.Disk p.0 p.1) c.close.ensures honest) in
          sym c.into_store-store.ensures.undone.numbered ∙ c.into_store-store.ensures.numbered (none_below _ _ (quiet_then c.rollback.ensures.quiet c.checkpoint.ensures.quiet).clean none);
      numbers = λ clean. tt;
    }

-- Closing failed. A store that the checkpoint left open has its trees numbered, as before. It wasn't broken before, so it wasn't shut.
pub returns-in-Err : goal.returns-in-Err
returns-in-Err g c =
    let into = c.into_store-store.ensures in
    let later = quiet_then c.rollback.ensures.quiet c.checkpoint.ensures.quiet in
    record {
      clean = λ clean. none_below _ _ (quiet_then into.quiet later).clean (no_doubt _ clean);
      left = λ clean trees lies. (quiet_then into.quiet later).outcomes trees lies;
      copied = record { quiet = quiet_then into.quiet later; sound = λ none db may. into.sound (none_below _ _ later.clean none) db (later.outcomes db may) };
      numbered = λ clean. sym into.undone.numbered ∙ into.numbered (none_below _ _ later.clean (no_doubt _ clean));
      numbers = λ clean why.
          let none = no_doubt _ clean in
          let before : IsClean (view c.rollback.new.self) = let q = c.checkpoint.ensures.quiet.clean in omega (arith, q, none) in
          let early : IsClean (view c.into_store-store.result) = let q = c.rollback.ensures.quiet.clean in omega (arith, q, before) in
          let numbered : IsTrue (view c.rollback.new.self).is_numbered = c.rollback.ensures.undone.numbered ∙ c.into_store-store.ensures.numbered early in
          let was_shut : (view c.args.conn.store).is_open ≡ false → ⊥ = λ shut.
          let sound : (view c.rollback.new.self).is_broken ≡ false = sym (c.is_broken.ensures.shown before) ∙ c.if-is_broken.false in
          let open_then : IsTrue (view c.rollback.new.self).is_open = elim (cases_Bool (view c.rollback.new.self).is_open) [
            | inl on ↦ on
            | inr off ↦ let broken : IsTrue (view c.rollback.new.self).is_broken = or_right (c.rollback.new.self).has_failed _ (ap not off) in absurd (true≢false (sym broken ∙ sound))
          ] in
          let on = (c.rollback.ensures.undone.kept before).was_open open_then in
          true≢false (sym ((c.into_store-store.ensures.undone.kept early).was_open on) ∙ shut) in
          elim why [
            | inl on ↦ ap (λ (v : View). v.is_numbered) (c.checkpoint.ensures.same on) ∙ numbered
            | inr shut ↦ absurd (was_shut shut)
          ];
    }

-- the store was broken before
pub returns-then-is_broken : goal.returns-then-is_broken
returns-then-is_broken g c =
    let into = c.into_store-store.ensures in
    let later = c.rollback.ensures.quiet in
    record {
      clean = λ clean. none_below _ _ (quiet_then into.quiet later).clean (no_doubt _ clean);
      left = λ clean trees lies. (quiet_then into.quiet later).outcomes trees lies;
      copied = record { quiet = quiet_then into.quiet later; sound = λ none db may. into.sound (none_below _ _ later.clean none) db (later.outcomes db may) };
      numbered = λ clean. sym into.undone.numbered ∙ into.numbered (none_below _ _ later.clean (no_doubt _ clean));
      numbers = λ clean why. c.rollback.ensures.undone.numbered ∙ into.numbered (none_below _ _ later.clean (no_doubt _ clean));
    }
