use Rattle.moo_http_request.{proofs.Words.{[], ◌≡◌, ◌<◌, ◌≤◌, length, arith, rules, refl, sym, subst, IsAtEnd, Lacks}, proofs.Giving.{Grows-all, Grows-more, settled, settled_at_end, taken_then, on_err}, proofs.HeadLemmas.{no_empty_head, fresh_next, close_of, lacks-long, lacks_all}}
use Rattle.moo_http_request.proofs.head.read_head.Goals as goal
use Rattle.moo_http_request.specs.declared.head.TheConstants.{MAX_HEAD}

pub returns-then-len-eq-MAX_HEAD-clause-head : goal.returns-then-len-eq-MAX_HEAD-clause-head
returns-then-len-eq-MAX_HEAD-clause-head g c =
    let none = rw c.deref.ensures.value at (c.in_default.ensures.partial refl) in
    settled _ _ _ (λ more. lacks-long _ more (search rules) none)

pub returns-in_err-read_more-2-clause-breaks : goal.returns-in_err-read_more-2-clause-breaks
returns-in_err-read_more-2-clause-breaks g c =
    on_err _ _ (taken_then _ _ _ [] _ MAX_HEAD c.pieces.invariant.few (record { given = c.pieces.bytes.items; known = c.pieces.invariant.taken; grown = refl }) c.in_err-read_more-2.ensures.breaks)

pub pieces-init : goal.pieces-init
pieces-init g c = record {
  some = search rules;
  few = search rules;
  fresh = fresh_next _ _ _ _ c.in_ok-read_more.ensures.grows c.in_ok-read_more.ensures.piece (rw c.requires no_empty_head);
  taken = Grows-all _ _ _ _ c.requires c.in_ok-read_more.ensures.grows;
}

pub returns-in-Some-clause-close : goal.returns-in-Some-clause-close
returns-in-Some-clause-close g c = close_of _ _ c.pieces.invariant.fresh (rw c.deref.ensures.value at c.in-Some.ensures.found)

pub returns-then-not-branch-2-clause-head : goal.returns-then-not-branch-2-clause-head
returns-then-not-branch-2-clause-head g c =
    let none = rw c.deref.ensures.value at (c.in_default.ensures.partial refl) in
    let end : (c.read_more-in-pieces.new.bytes.items ≡ c.pieces.bytes.items) × IsAtEnd (g.R.Read.remaining c.read_more-in-pieces.new.reader) = search rules in
    settled_at_end _ _ _ end.1 (subst Lacks (sym end.0) (lacks_all c.pieces.bytes.items c.pieces.invariant.some none))

pub pieces-preserved : goal.pieces-preserved
pieces-preserved g c =
    let none = rw c.deref.ensures.value at (c.in_default.ensures.partial refl) in
    let more : (length c.pieces.bytes.items < length c.read_more-in-pieces.new.bytes.items) × (length c.read_more-in-pieces.new.bytes.items ≤ MAX_HEAD) = search rules in
    record {
      some = omega (arith, more.0);
      few = more.1;
      fresh = fresh_next _ _ _ _ c.in_ok-read_more-2.ensures.grows c.in_ok-read_more-2.ensures.piece none;
      taken = Grows-more _ _ _ _ _ c.pieces.invariant.taken c.in_ok-read_more-2.ensures.grows;
    }
