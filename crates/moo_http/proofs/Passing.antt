-- From what the judge sees through a desk to what the peer sees.
use Rattle.moo_http.{proofs.Words.{◌≡◌, inl, inr, ℕ, zero, suc, List, [], ◌∷◌, ◌++◌, length, take, Option, Some, None, refl, sym, ap, subst, ◌∙◌, append_assoc, append-nil, Ok, Err, Place, Keeps, Appends, Consumes, Takes, Yields, Exchanged, ServeFault, Read, Write, OutOfMemory, Traffic}, specs.Through.{Passes, FailedThrough}}
use Rattle.std.specs.Io.KnownBytes.{append_known, prepend_known}
use Rattle.std.proofs.KnownBytes.{Appends-nil, Consumes-nil, Consumes-trans, Consumes-kept, prepend_known-nil}
use Rattle.std.proofs.lemmas.List.{append_cancel_left}
use Rattle.std.proofs.Math.Seq.{take-append_seam, take-nil}

consumes_given : (given left rest : Option (List ℕ)) (bs : List ℕ) → Keeps (prepend_known [] given) left → Consumes left rest bs → Consumes given rest bs
consumes_given given left rest bs kept taken = Consumes-trans given left rest [] bs (Consumes-kept given given left [] (Consumes-nil given) (subst (λ a. Keeps a left) (prepend_known-nil given) kept)) taken

module _ (from to : Place) (peer judge : Traffic) (unsent : List ℕ) (it : Passes peer judge unsent) where
  -- what was gathered is the peer's
  yields_given : (output : List ℕ) → Yields from to judge output → Yields from to peer output
  yields_given output (received, taken, gets) = (
    received,
    subst (λ rest. Takes peer.left rest received) (sym it.rest) (record {
      given = taken.given;
      gives = record { known = consumes_given peer.left judge.left judge.rest taken.given it.gathered taken.gives.known; sparing = taken.gives.sparing };
      settles = taken.settles;
      behind = taken.behind;
    }),
    gets,
  )

-- a front of a front is one
take_within : (m n : ℕ) (xs : List ℕ) → (k : ℕ) × (take m (take n xs) ≡ take k xs)
take_within zero n xs = (0, refl)
take_within (suc m) zero xs = (0, refl)
take_within (suc m) (suc n) [] = (0, refl)
take_within (suc m) (suc n) (x ∷ xs) = let it = take_within m n xs in (suc it.0, ap (λ l. x ∷ l) it.1)

-- all of what was written is sent
all_sent : (before after taken told : Option (List ℕ)) (output : List ℕ) → Keeps (append_known taken []) before → Keeps after (append_known told []) → Appends before after output → Appends taken told output
all_sent before after None told output fresh sent wrote = tt
all_sent None after (Some t) told output fresh sent wrote = absurd fresh
all_sent (Some b) None (Some t) told output fresh sent wrote = absurd wrote
all_sent (Some b) (Some a) (Some t) None output fresh sent wrote = absurd sent
all_sent (Some b) (Some a) (Some t) (Some w) output fresh sent wrote =
    sym (append-nil w) ∙ sent ∙ wrote ∙ ap (λ l. l ++ output) (fresh ∙ append-nil t)

-- a front of it is
front_sent : (before after taken told : Option (List ℕ)) (unsent output bytes : List ℕ) → Keeps (append_known taken []) before → Keeps after (append_known told unsent) → Appends taken told bytes → Appends before after output
    → (count : ℕ) × Appends taken told (take count output)
front_sent before after None told unsent output bytes fresh sent front wrote = (0, tt)
front_sent None after (Some t) told unsent output bytes fresh sent front wrote = absurd fresh
front_sent (Some b) None (Some t) told unsent output bytes fresh sent front wrote = absurd wrote
front_sent (Some b) (Some a) (Some t) None unsent output bytes fresh sent front wrote = absurd front
front_sent (Some b) (Some a) (Some t) (Some w) unsent output bytes fresh sent front wrote =
    let whole : t ++ (bytes ++ unsent) ≡ t ++ output = sym (append_assoc t bytes unsent) ∙ ap (λ l. l ++ unsent) (sym front) ∙ sent ∙ wrote ∙ ap (λ l. l ++ output) (fresh ∙ append-nil t) in
    let is : bytes ++ unsent ≡ output = append_cancel_left t (bytes ++ unsent) output whole in
    let cut : bytes ≡ take (length bytes) output = sym (take-append_seam bytes unsent) ∙ ap (take (length bytes)) is in
    (length bytes, front ∙ ap (λ l. t ++ l) cut)

-- nothing was written
none_sent : (before after taken told : Option (List ℕ)) (unsent bytes : List ℕ) → Keeps (append_known taken []) before → Keeps after (append_known told unsent) → Appends taken told bytes → after ≡ before → Keeps taken told
none_sent before after None told unsent bytes fresh sent front same = tt
none_sent before after (Some t) None unsent bytes fresh sent front same = absurd front
none_sent before after (Some t) (Some w) unsent bytes fresh sent front same =
    let it = front_sent before after (Some t) (Some w) unsent [] bytes fresh sent front (subst (λ a. Appends before a []) (sym same) (Appends-nil before)) in
    it.1 ∙ ap (λ l. t ++ l) (take-nil it.0) ∙ append-nil t

module _ (from to : Place) (peer judge : Traffic) where
  pub passes_answer : Passes peer judge [] → Exchanged (Ok tt) from to judge → Exchanged (Ok tt) from to peer
  passes_answer it (output, yields, wrote) =
      (output, yields_given from to peer judge [] it output yields, all_sent judge.before judge.after peer.before peer.after output it.fresh it.sent wrote)

  module _ (unsent : List ℕ) (it : Passes peer judge unsent) where
    -- of what is written a front is sent
    fronted : (output : List ℕ) → Appends judge.before judge.after output → (count : ℕ) × Appends peer.before peer.after (take count output)
    fronted output wrote = front_sent judge.before judge.after peer.before peer.after unsent output it.front.0 it.fresh it.sent it.front.1 wrote

    unwritten : judge.after ≡ judge.before → Keeps peer.before peer.after
    unwritten same = none_sent judge.before judge.after peer.before peer.after unsent it.front.0 it.fresh it.sent it.front.1 same

    pub passes_front : Exchanged (Ok tt) from to judge → Exchanged (Err Write) from to peer
    passes_front (output, yields, wrote) = let front = fronted output wrote in (output, yields_given from to peer judge unsent it output yields, front.0, front.1)

    pub passes_fault : (fault : ServeFault) → Exchanged (Err fault) from to judge → FailedThrough fault from to peer
    passes_fault Write (output, yields, count, wrote) =
        let front = fronted (take count output) wrote in
        let cut = take_within front.0 count output in
        (output, yields_given from to peer judge unsent it output yields, cut.0, subst (Appends peer.before peer.after) cut.1 front.1)
    passes_fault Read (same, still) = (same, unwritten still)
    passes_fault OutOfMemory (still, inl same) = (unwritten still, inl same)
    passes_fault OutOfMemory (still, inr (output, yields)) = (unwritten still, inr (output, yields_given from to peer judge unsent it output yields))
