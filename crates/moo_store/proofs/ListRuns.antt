-- Batches of a list that are run one after another, from place to place.
use Rattle.moo_store.{proofs.Words.{◌≡◌, ◌∙◌, inl, inr, ℕ, suc, ◌+◌, ◌<◌, true, false, List, [], ◌∷◌, ◌++◌, append_assoc, append-nil, length-append, take, take_more, drop, length, get_or, map, Option, IsSome, Result, Ok, Err, MatchStore, IsTrue, ⊤, refl, sym, ap, subst, subst₂, arith, Ghosts, HasCleanDisk, IsGood, Batch, Reply, answer_to, acknowledged, added, says_accepted, accepted, World, store_of, Turns, KeepsFaults, IsStopped, StoreFault, Store, Closed, OutOfMemory}, specs.Moves.{Stands, MovesBy, RunsAt, FailsRun}, specs.Runs.{EndsList, RunsEach}, proofs.Going.{turns-push}, proofs.Moving.{stands_somewhere, moves_as, moves_none, moves_then}, proofs.Leading.{turns_lead}, proofs.Moments.{faults_same, faults_then, stopped_since, some_cells, kept_cells, cells_at_rest}, specs.Moment.{AllCells, Moment, KeepsCellsAt, LeadsByEach}, specs.Place.{Place, Works, moment_of, has_failed}}
use Rattle.std.{proofs.Math.Seq.{drop-append_seam, drop-cons, drop-length, take-append_seam}, proofs.lemmas.List.{map-append}}
use Rattle.moo_text.specs.declared.next.Next.TheVariants.{Batch as Whole}
use Rattle.moo_text.specs.declared.reply.Answer.TheVariants as answer
use Rattle.moo_text.specs.declared.reply.Reply.TheVariants as reply

-- what a run answers
abbrev Ended : Type 0
Ended = Result (Unit {0}) StoreFault

-- ---- acknowledged batches

none_without_replies : (batches : List Batch) → acknowledged batches [] ≡ []
none_without_replies [] = refl
none_without_replies (b ∷ bs) = refl

one_of : (b : Batch) (bs : List Batch) (r : Reply) → acknowledged (b ∷ bs) (r ∷ []) ≡ acknowledged (b ∷ []) (r ∷ [])
one_of b bs r = grind (arith, none_without_replies)

-- one more reply acknowledges its batch or none
acknowledged-push : (all : List Batch) (replies : List Reply) (batch : Batch) (r : Reply) → length replies < length all → batch ≡ get_or all (length replies) batch
    → acknowledged all (replies ++ r ∷ []) ≡ acknowledged all replies ++ acknowledged (batch ∷ []) (r ∷ [])
acknowledged-push [] replies batch r low is = absurd (omega (arith, low))
acknowledged-push (b ∷ bs) [] batch r low is = one_of b bs r ∙ ap (λ x. acknowledged (x ∷ []) (r ∷ [])) (sym is)
acknowledged-push (b ∷ bs) (reply.Accepted seq vs ∷ rs) batch r low is = ap (λ t. b ∷ t) (acknowledged-push bs rs batch r (omega (arith, low)) is)
acknowledged-push (b ∷ bs) (x ∷ rs) batch r low is = acknowledged-push bs rs batch r (omega (arith, low)) is

none_in : (first second : List Batch) → first ++ second ≡ [] → (first ≡ []) × (second ≡ [])
none_in [] second none = (refl, none)
none_in (b ∷ bs) second none = let no : b ∷ (bs ++ second) ≡ [] = none in absurd cc

unaccepted : (batch : Batch) (given : Reply) → acknowledged (batch ∷ []) (given ∷ []) ≡ [] → says_accepted (answer.Replied given) ≡ false
unaccepted batch given none = grind arith

-- ---- cells that are known stay known

leads_seen : (m end : Moment) (batches : List Batch) → LeadsByEach m batches end → IsSome m.cells → IsSome end.cells
leads_seen m end [] it some = subst (λ (x : Moment). IsSome x.cells) (sym it) some
leads_seen m end (b ∷ bs) it some =
    let c = some_cells m.cells some in
    let d = kept_cells m.rows it.0.rows c.0 it.0.cells (subst (λ cells. KeepsCellsAt m.rows it.0.rows cells it.0.cells) c.1 it.1.kept) in
    leads_seen it.0 end bs it.2 (subst (λ (cells : Option AllCells). IsSome cells) (sym d.1) refl)

-- ---- this many batches have a reply

pub record Reached {S : Type 0} (g : Ghosts S) (old now : World S) (all : List Batch) (count : ℕ) (before replies : List Reply) : Type 0 where
  pub new : List Reply
  pub whole : replies ≡ before ++ new
  pub each : length new ≡ count
  pub moves : MovesBy g old now (λ from to. Turns RunsAt from (map Whole (take count all)) (map answer.Replied new) to)
  pub still : acknowledged all new ≡ [] → now ≡ old
  pub kept : KeepsFaults (store_of g old) (store_of g now)

pub reached_first : {S : Type 0} (g : Ghosts S) (old : World S) (all : List Batch) (before replies : List Reply) → replies ≡ before → Reached g old old all 0 before replies
reached_first g old all before replies same = record {
  new = [];
  whole = same ∙ sym (append-nil before);
  each = refl;
  moves = moves_none g old (λ from to. Turns RunsAt from (map Whole (take 0 all)) [] to) (λ from. refl);
  still = λ none. refl;
  kept = faults_same (store_of g old);
}

turned-push : (old mid end : Place) (batches : List Batch) (replies : List Reply) (batch : Batch) (r : Reply) → Turns RunsAt old (map Whole batches) (map answer.Replied replies) mid → RunsAt mid batch (answer.Replied r) end
    → Turns RunsAt old (map Whole (batches ++ batch ∷ [])) (map answer.Replied (replies ++ r ∷ [])) end
turned-push old mid end batches replies batch r it one =
    subst₂ (λ items answers. Turns RunsAt old items answers end) (sym (map-append Whole batches (batch ∷ []))) (sym (map-append answer.Replied replies (r ∷ [])))
    (turns-push RunsAt old mid end (map Whole batches) (map answer.Replied replies) (Whole batch) (answer.Replied r) it one)

pub reached_next : {S : Type 0} {g : Ghosts S} {old now next : World S} {all : List Batch} {count : ℕ} {before replies longer : List Reply} {batch : Batch} (r : Reply)
    → count < length all → batch ≡ get_or all count batch → Reached g old now all count before replies → longer ≡ replies ++ r ∷ []
    → MovesBy g now next (λ from to. RunsAt from batch (answer.Replied r) to) → (says_accepted (answer.Replied r) ≡ false → next ≡ now) → KeepsFaults (store_of g now) (store_of g next)
    → Reached g old next all (count + 1) before longer
reached_next {g = g} {old} {now} {next} {all} {count} {before} {batch = batch} r low is p pushed one stays kept =
    let more : take (count + 1) all ≡ take count all ++ batch ∷ [] = take_more all count batch low ∙ ap (λ y. take count all ++ y ∷ []) (sym is) in
    let place : count ≡ length p.new = sym p.each in
    record {
      new = p.new ++ r ∷ [];
      whole = pushed ∙ ap (λ t. t ++ r ∷ []) p.whole ∙ append_assoc before p.new (r ∷ []);
      each = length-append p.new (r ∷ []) ∙ ap (λ n. n + 1) p.each;
      moves = moves_as g old next _ (λ from to. Turns RunsAt from (map Whole (take (count + 1) all)) (map answer.Replied (p.new ++ r ∷ [])) to)
          (moves_then g old now next (λ from to. Turns RunsAt from (map Whole (take count all)) (map answer.Replied p.new) to) (λ from to. RunsAt from batch (answer.Replied r) to) p.moves one)
          (λ from to at here it. subst (λ t. Turns RunsAt from (map Whole t) (map answer.Replied (p.new ++ r ∷ [])) to) (sym more) (turned-push from it.0 to (take count all) p.new batch r it.1 it.2));
      still = λ none.
          let nones = none_in (acknowledged all p.new) (acknowledged (batch ∷ []) (r ∷ [])) (sym (acknowledged-push all p.new batch r (subst (λ n. n < length all) place low) (subst (λ n. batch ≡ get_or all n batch) place is)) ∙ none) in
          stays (unaccepted batch r nones.1) ∙ p.still nones.0;
      kept = faults_then (store_of g old) (store_of g now) (store_of g next) p.kept kept;
    }

-- a World that had failed answers so, and stays
closed_there : (mid to : Place) (batch : Batch) → RunsAt mid batch answer.Closed to → IsTrue (has_failed mid) × (to ≡ mid)
closed_there mid to batch it = grind arith

module _ {S : Type 0} {g : Ghosts S} {old now : World S} {all : List Batch} {count : ℕ} {before replies : List Reply} (p : Reached g old now all count before replies) where
  added_is : added before replies ≡ p.new
  added_is = ap (drop (length before)) p.whole ∙ drop-append_seam before p.new

  pub stood : take (length before) replies ≡ before
  stood = ap (λ rs. take (length before) rs) p.whole ∙ take-append_seam before p.new

  place : length (added before replies) ≡ count
  place = ap length added_is ∙ p.each

  turned : (from mid : Place) → Turns RunsAt from (map Whole (take count all)) (map answer.Replied p.new) mid
      → Turns RunsAt from (map Whole (take (length (added before replies)) all)) (map answer.Replied (added before replies)) mid
  turned from mid it =
      subst (λ rs. Turns RunsAt from (map Whole (take (length rs) all)) (map answer.Replied rs) mid) (sym added_is)
      (subst (λ n. Turns RunsAt from (map Whole (take n all)) (map answer.Replied p.new) mid) (sym p.each) it)

  -- what moves the World on behind these batches ends their list
  ends_by : (new : World S) (r : Ended) (Last : Place → Place → Type 0) → MovesBy g now new Last
      → ((from mid to : Place) → Stands g old from → Last mid to → EndsList from p.new r (drop count all) mid to) → MovesBy g old new (λ from to. RunsEach from all (added before replies) r to)
  ends_by new r Last moves leads =
      moves_as g old new (λ from to. (mid : Place) × Turns RunsAt from (map Whole (take count all)) (map answer.Replied p.new) mid × Last mid to) (λ from to. RunsEach from all (added before replies) r to)
      (moves_then g old now new (λ from to. Turns RunsAt from (map Whole (take count all)) (map answer.Replied p.new) to) Last p.moves moves)
      (λ from to at here it. (
        it.0,
        turned from it.0 it.1,
        subst₂ (λ rs n. EndsList from rs r (drop n all) it.0 to) (sym added_is) (sym place) (leads from it.0 to at it.2),
      ))

  -- each has a reply
  pub reached_last : old.failed ≡ false → count ≡ length all → MovesBy g old now (λ from to. RunsEach from all (added before replies) (Ok tt) to)
  reached_last works done = ends_by now (Ok tt) (λ from to. to ≡ from) (moves_none g now (λ from to. to ≡ from) (λ from. refl))
      (λ from mid to at same. (sym at.failed ∙ works, ap (λ n. drop n all) done ∙ drop-length all, same))

  -- the batch in hand
  module _ {batch : Batch} (new : World S) (low : count < length all) (is : batch ≡ get_or all count batch) where
    next_in_hand : drop count all ≡ batch ∷ drop (suc count) all
    next_in_hand = drop-cons all count batch low ∙ ap (λ b. b ∷ drop (suc count) all) (sym is)

    -- ..met a fault
    pub reached_fault : (fault : StoreFault) → MovesBy g now new (λ from to. RunsAt from batch (answer_to (Err fault)) to) → FailsRun g now new fault → MovesBy g old new (λ from to. RunsEach from all (added before replies) (Err fault) to)
    reached_fault (Store error) moves fails = ends_by new (Err (Store error)) (λ from to. RunsAt from batch answer.Fault to) moves (λ from mid to at it. (batch, drop (suc count) all, next_in_hand, it))
    reached_fault Closed moves fails = ends_by new (Err Closed) (λ from to. RunsAt from batch answer.Closed to) moves
        (λ from mid to at it. (let shut = closed_there mid to batch it in (shut.0, shut.1, λ works. (batch, drop (suc count) all, next_in_hand))))
    reached_fault fault moves fails = absurd (elim fails [ inl closed ↦ cc | inr stopped ↦ (let stop = stopped.1 in cc) ])

    -- why, if the cells are known
    stopped_at : (fault : StoreFault) (mid to : Place) → Stands g now mid → IsSome (moment_of mid).cells → RunsAt mid batch answer.Fault to → (HasCleanDisk (store_of g new) → HasCleanDisk (store_of g now))
        → ((m : Moment) → Stands g now (Works m) → IsSome m.cells → HasCleanDisk (store_of g new) → IsStopped (store_of g now) (store_of g new) fault)
        → HasCleanDisk (store_of g new) → IsStopped (store_of g old) (store_of g new) fault
    stopped_at fault (Works m) to at some ran early why clean =
        let c = some_cells m.cells some in
        stopped_since (store_of g old) (store_of g now) (store_of g new) fault p.kept (λ e store. (cells_at_rest (store_of g now) m c.0 c.1 (at.rests (early clean) tt)).0.is_open) (why m at some clean)
    stopped_at fault mid to at some ran early why clean = let no : answer.Fault ≡ answer.Closed = ran.0 in absurd cc

    pub fails_since : (fault : StoreFault) → MovesBy g now new (λ from to. RunsAt from batch (answer_to (Err fault)) to) → FailsRun g now new fault → FailsRun g old new fault
    fails_since fault moves (inl closed) = inl closed
    fails_since fault moves (inr (error, stop, why)) = inr (
      error,
      stop,
      λ m at some clean.
          let mid = p.moves.goes (Works m) at in
          let led = turns_lead (Works m) mid.0 (map Whole (take count all)) (map answer.Replied p.new) mid.2 in
          let seen = leads_seen m (moment_of mid.0) (accepted (map Whole (take count all)) (map answer.Replied p.new)) led some in
          let ran = moves.goes mid.0 mid.1 in
          stopped_at fault mid.0 ran.0 mid.1 seen (subst (λ f. RunsAt mid.0 batch (answer_to (Err f)) ran.0) stop ran.2) moves.clean why clean,
    )

    -- a World that had failed before it is as it was
    closed_stays : (old.failed ≡ false → IsGood old.rows.maps) → MovesBy g now new (λ from to. RunsAt from batch answer.Closed to) → new ≡ now
    closed_stays good moves =
        let from = stands_somewhere g old good in
        let mid = p.moves.goes from.0 from.1 in
        let ran = moves.goes mid.0 mid.1 in
        moves.closed (mid.1.failed ∙ (closed_there mid.0 ran.0 batch ran.2).0)

    pub still_at_fault : (fault : StoreFault) → (old.failed ≡ false → IsGood old.rows.maps) → MovesBy g now new (λ from to. RunsAt from batch (answer_to (Err fault)) to) → FailsRun g now new fault
        → acknowledged all (added before replies) ≡ [] → let r : Ended = Err fault in MatchStore r (new ≡ old) ⊤
    still_at_fault fault good moves (inl closed) none =
        subst (λ f. let r : Ended = Err f in MatchStore r (new ≡ old) ⊤) (sym closed)
        (closed_stays good (subst (λ f. MovesBy g now new (λ from to. RunsAt from batch (answer_to (Err f)) to)) closed moves) ∙ p.still (sym (ap (acknowledged all) added_is) ∙ none))
    still_at_fault fault good moves (inr (error, stop, why)) none = subst (λ f. let r : Ended = Err f in MatchStore r (new ≡ old) ⊤) (sym stop) tt

  pub still_at_end : acknowledged all (added before replies) ≡ [] → now ≡ old
  still_at_end none = p.still (sym (ap (acknowledged all) added_is) ∙ none)

-- a World that had failed, before the first batch
pub shut_first : {S : Type 0} (g : Ghosts S) (old : World S) (all : List Batch) (before : List Reply) → old.failed ≡ true → MovesBy g old old (λ from to. RunsEach from all (added before before) (Err Closed) to)
shut_first g old all before failed =
    let p = reached_first g old all before before refl in
    ends_by p old (Err Closed) (λ from to. IsTrue (has_failed from) × (to ≡ from)) (record { clean = λ c. c; closed = λ f. refl; goes = λ from at. (from, at, (sym at.failed ∙ failed, refl)) })
    (λ from mid to at it. (it.0, it.1, λ works. (let no : true ≡ false = sym (sym at.failed ∙ failed) ∙ works in absurd cc)))

-- no room for the replies
pub no_room_first : {S : Type 0} (g : Ghosts S) (old : World S) (all : List Batch) (before behind : List Reply) → behind ≡ before → old.failed ≡ false → MovesBy g old old (λ from to. RunsEach from all (added before behind) (Err OutOfMemory) to)
unfolding reached_first
no_room_first g old all before behind same works =
    let p = reached_first g old all before behind same in
    ends_by p old (Err OutOfMemory) (λ from to. to ≡ from) (moves_none g old (λ from to. to ≡ from) (λ from. refl)) (λ from mid to at it. (refl, sym at.failed ∙ works, refl, it))

-- what a run cites
pub ruleset runs = (faults_same, faults_then, stood, still_at_end)
