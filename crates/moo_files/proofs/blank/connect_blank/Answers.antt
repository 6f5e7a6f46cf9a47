use Rattle.moo_files.{proofs.Words.{◌≡◌, ◌∙◌, false, ap, sym, subst, subst₂, inl, inr, arith, seen_image, outcomes, bytes_of, IsPageSize, are_clean, IsBlankFile, stored_size, state_of, image, clean_of, no_doubt, IsEmpty, image_of, stored_used, refl, ∥∥₁_map, empty_is_sound}, proofs.BlankLemmas.{made_empty, on_the_way}, proofs.RefusalLemmas.{made_cause, over_cause}}
use Rattle.moo_files.proofs.blank.connect_blank.Goals as goal
use Rattle.sqlite_store.{specs.FileStore.{view}, specs.Laws.{settled_at}, specs.Build.{CanBuild}}
use Rattle.std.proofs.lemmas.List.Elements.{All-nil}
use Rattle.sqlite.proofs.OpenLemmas.{pool_files}

-- ---- one was made

pub returns-in-Ok-over-clause-empty : goal.returns-in-Ok-over-clause-empty
returns-in-Ok-over-clause-empty g c none =
    let e = c.in-Ok-create.ensures in
    let still = clean_of (view c.in-Ok-create.store).is_clean (omega (arith, c.in-Ok-over.ensures.clean)) in
    let trees = sym (ap (λ d. d.trees) (c.in-Ok-over.ensures.opens none).0.clean) ∙ c.in-Ok-over.ensures.trees none in (
      sym ((pool_files c.in-Ok.fresh.pool).1 ∙ ap (λ f. are_clean g.D.Disk f.0 f.1) c.in-Ok.ensures.files) ∙ e.honest still,
      subst IsEmpty (sym trees) (made_empty c.in-Ok-create.store e.ready (e.schema ∙ c.in-Ok.ensures.none) still (e.empty still)),
    )

-- ---- there was no memory for the pager

-- ---- making it stopped

pub returns-in-Err-create-clause-left : goal.returns-in-Err-create-clause-left
returns-in-Err-create-clause-left g c clean =
    let fresh = c.in-Ok.fresh in
    let made = c.in-Ok.ensures in
    let given = c.args.size in
    let size : (state_of fresh).page_size ≡ 1024 = made.size ∙ c.requires.size in
    let seen : image fresh ≡ image_of g.D.Disk c.args.files = ap (λ f. seen_image g.D.Disk f.0 f.1) made.files in
    let whole : IsPageSize (bytes_of given) = (given.smallest, given.largest, given.power, given.aligned) in
    let valid : IsPageSize (stored_size (state_of fresh).page_size) = subst IsPageSize (sym (ap stored_size made.size ∙ stored_used given false)) whole in (
      sym ((pool_files fresh.pool).1 ∙ ap (λ f. are_clean g.D.Disk f.0 f.1) made.files) ∙ c.in-Err-create.ensures.falls clean,
      λ blank.
          let nothing : IsBlankFile (state_of fresh).page_size (image fresh) = subst₂ IsBlankFile (sym size) (sym seen) blank in (
            λ found may. elim ((c.in-Err-create.ensures.unharmed clean).blank nothing found may) [
              | inl was ↦ inl (subst (λ f. outcomes g.D.Disk f.0 f.1 found) made.files ((pool_files fresh.pool).2 found was))
              | inr way ↦ inr (on_the_way (state_of fresh).page_size found size valid (rw made.none at way))
            ],
            made_cause _ _ _ _ _ c.in-Err-create.error c.make_error.result c.make_error.ensures
                (record { few = rw made.none (omega arith); files = inl nothing; schema = subst CanBuild (sym made.none) (record { distinct = refl; shaped = All-nil _; short = All-nil _ }) })
                (λ stop. ∥∥₁_map stop (λ why. elim why [ inl full ↦ full | inr deep ↦ absurd (deep.0 (c.in-Err-create.ensures.back ∙ made.none)) ]))
                (c.in-Err-create.ensures.cause clean),
          ),
    )

-- ---- reading it again stopped

pub returns-in-Err-over-clause-left : goal.returns-in-Err-over-clause-left
returns-in-Err-over-clause-left g c late =
    let now = no_doubt _ late in
    let store = c.in-Ok-create.store in
    let e = c.in-Ok-create.ensures in
    let last = c.in-Err-over.ensures in
    let still = clean_of (view store).is_clean (omega (arith, last.unharmed.clean)) in
    let empty = made_empty store e.ready (e.schema ∙ c.in-Ok.ensures.none) still (e.empty still) in (
      sym ((pool_files c.in-Ok.fresh.pool).1 ∙ ap (λ f. are_clean g.D.Disk f.0 f.1) c.in-Ok.ensures.files) ∙ e.honest still,
      λ blank. (
        λ found may. subst IsEmpty (sym (settled_at store g.met.D.Disk.seen_may_stay found (e.ready.is_open (no_doubt _ still)) (last.unharmed.outcomes found may) ∙ sym e.ready.clean)) empty,
        over_cause _ _ _ _ c.in-Err-over.error _ (empty_is_sound _ empty.1) (last.err now),
      ),
    )
