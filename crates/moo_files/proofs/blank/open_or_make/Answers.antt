use Rattle.moo_files.{proofs.Words.{◌≡◌, sym, subst, inr, rules, AreClean, bytes_of, IsBlankFile, image_of, same_image, IsBlank}, proofs.BlankLemmas.{blank_earlier, files_earlier, finds_earlier}, specs.Causes.{IsOpenable}, proofs.RefusalLemmas.{asked_cause, probe_cause, is_wanted}}
use Rattle.std.proofs.Common.{inl}
use Rattle.std.proofs.lemmas.Result.{IfOk-weaker, IfErr-weaker}
use Rattle.sqlite.specs.Files.{IsTooLong}
use Rattle.moo_files.proofs.blank.open_or_make.Goals as goal

-- ---- the files hold no database

was_blank : (g : _) (c : goal.After-connect_blank g) → AreClean g.D.Disk c.probe_blank.new.files.log c.probe_blank.new.files.db → IsBlank (image_of g.D.Disk c.args.files)
was_blank g c clean =
    let size : bytes_of c.unwrap-size.result ≡ 1024 = search rules in
    subst (λ n. IsBlankFile n (image_of g.D.Disk c.args.files)) size ((c.in-Ok-true.ensures.ok clean).0 c.in-Ok-true.field-0-test)

still_blank : (g : _) (c : goal.After-connect_blank g) → AreClean g.D.Disk c.probe_blank.new.files.log c.probe_blank.new.files.db → IsBlank (image_of g.D.Disk c.probe_blank.new.files)
still_blank g c clean = subst IsBlank (sym (same_image c.probe_blank.ensures.log c.probe_blank.ensures.db)) (was_blank g c clean)

pub returns-in-Ok-true-clause-found : goal.returns-in-Ok-true-clause-found
returns-in-Ok-true-clause-found g c =
    IfOk-weaker c.connect_blank.result _ _ (λ conn empty clean. inl (was_blank g c (empty clean).0, (empty clean).1)) c.connect_blank.ensures.empty

pub returns-in-Ok-true-clause-spared : goal.returns-in-Ok-true-clause-spared
returns-in-Ok-true-clause-spared g c = IfErr-weaker c.connect_blank.result _ _
    (λ e left clean.
    let it = left clean in
    inl (was_blank g c it.0, blank_earlier c.probe_blank.ensures.log c.probe_blank.ensures.db e.1 (it.1 (still_blank g c it.0)).0)) c.connect_blank.ensures.left

-- ---- they may hold one

pub returns-in-Ok-false-clause-found : goal.returns-in-Ok-false-clause-found
returns-in-Ok-false-clause-found g c =
    IfOk-weaker c.open_files.result _ _ (λ conn found clean. inr (finds_earlier c.probe_blank.ensures.log c.probe_blank.ensures.db conn (found clean))) c.open_files.ensures.found

pub returns-in-Ok-false-clause-spared : goal.returns-in-Ok-false-clause-spared
returns-in-Ok-false-clause-spared g c =
    IfErr-weaker c.open_files.result _ _ (λ e left clean. inr (files_earlier c.probe_blank.ensures.log c.probe_blank.ensures.db e.1 (left clean))) c.open_files.ensures.unharmed

pub returns-in-Ok-false-clause-cause : goal.returns-in-Ok-false-clause-cause
returns-in-Ok-false-clause-cause g c = IfErr-weaker c.open_files.result _ _
    (λ e cause clean openable. asked_cause _ _ _ _ _ e.0 (is_wanted _ (subst IsOpenable (sym (same_image c.probe_blank.ensures.log c.probe_blank.ensures.db)) openable)) (cause clean)) c.open_files.ensures.cause

-- ---- they can't be looked at

pub returns-in-Err-clause-cause : goal.returns-in-Err-clause-cause
returns-in-Err-clause-cause g c clean openable =
    let read = c.probe_blank.ensures in
    probe_cause _ _ _ _ c.in-Err.error c.probe_error.result c.probe_error.ensures
    (λ long. let too : IsTooLong (image_of g.D.Disk c.args.files) = (_, ((λ used. sym long.0.1), (λ ignored. absurd (long.0.0 ignored))), long.1) in subst IsTooLong (sym (same_image read.log read.db)) too)
    (c.in-Err.ensures.cause clean)

pub returns-in-Ok-true-clause-cause : goal.returns-in-Ok-true-clause-cause
returns-in-Ok-true-clause-cause g c = IfErr-weaker c.connect_blank.result _ _ (λ e left clean openable. ((left clean).1 (still_blank g c (left clean).0)).1) c.connect_blank.ensures.left
