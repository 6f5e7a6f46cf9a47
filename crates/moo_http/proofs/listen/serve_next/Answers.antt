use Rattle.moo_http.{proofs.Words.{Read, ◌≡◌, ◌∙◌, Bool, true, false, true≢false, inl, inr, refl, sym}, proofs.Going.{moves_as, moves_none}}
use Rattle.moo_http.proofs.listen.serve_next.Goals as goal

by_test : {X : Type 0} (b : Bool) → (b ≡ true → X) → (b ≡ false → X) → X
by_test true first second = first refl
by_test false first second = second refl

pub returns : goal.returns
returns g c = record {
  turn =
      let served = c.serve_connection-is_answered in
      let opened = c.in-Some.connection in
      by_test opened.is_limited
      (λ is. moves_as served.ensures.visited
      (λ from to visit. inl (opened, served.new.connection, c.accept.new.self, c.in-Some.ensures, visit, c.close.ensures, (λ none. absurd (true≢false (sym is ∙ none))))))
      (λ is.
      let still = served.ensures.unlimited is in
      rw still.1 (moves_none (λ from at.
      inl (opened, served.new.connection, c.accept.new.self, c.in-Some.ensures, rw (still.0, still.2) (Read, (λ e. inr is), (refl, refl)), c.close.ensures, (λ none. (still.0, refl, still.2))))));
}

-- if no connection came the World is where it was
pub returns-in_default : goal.returns-in_default
returns-in_default g c = record { turn = moves_none (λ from at. inr (refl, refl, c.in_default.ensures)) }
