-- What the service says of its connections.
use Rattle.moo_http.proofs.Words.{◌≡◌, ◌≢◌, false, inl, inr, ℕ, ◌+◌, List, ◌++◌, length, take, Option, refl, sym, subst, Result, Ok, Err, OnOk, OnErr, IfErr, IsErrAnd, Appends, ServiceFault, WritesFront, SaysByResult, listening_line, served_line}
use Rattle.moo_http.specs.declared.service.ServiceFault.TheVariants as service
use Rattle.std.{specs.Prelude.{is_err}, proofs.KnownBytes.{Appends-trans}, proofs.Math.Seq.{take-append-add}}

-- what holds of a call that went well
pub when_ok : {T E P : Type 0} (r : Result T E) → false ≡ is_err r → OnOk r P → P
when_ok (Ok x) well holds = holds
when_ok (Err x) well holds = absurd cc

-- a front after a text that is written whole
pub front_behind : (first second : List ℕ) (before between behind : Option (List ℕ)) → Appends before between first → WritesFront second between behind → WritesFront (first ++ second) before behind
front_behind first second before between behind all (sent, it) =
    (length first + sent, subst (λ bs. Appends before behind bs) (sym (take-append-add first second sent)) (Appends-trans before between behind first (take sent second) all it))

module _ (Holds : ℕ → ℕ → Type 0) (Stays : Type 0) (port count : ℕ) where
  -- memory ran out, or the output failed, before the first connection
  pub fails_early : (r : Result (Unit {0}) ServiceFault) (fault : ServiceFault) (before after : Option (List ℕ)) → Stays → IsErrAnd r (λ e. e ≡ fault) → fault ≢ service.Port → WritesFront (listening_line port) before after
      → SaysByResult Holds Stays r port count before after
  fails_early (Ok done) fault before after stays is other front = absurd is
  fails_early (Err service.Port) fault before after stays is other front = absurd (other (sym is))
  fails_early (Err service.Write) fault before after stays is other front = inl (stays, front)
  fails_early (Err service.OutOfMemory) fault before after stays is other front = inl (stays, front)

  -- after the last one
  pub says_all : (r : Result (Unit {0}) ServiceFault) (answered failed : ℕ) (before between after : Option (List ℕ)) → answered + failed ≡ count → Holds answered failed
      → Appends before between (listening_line port) → OnOk r (Appends between after (served_line answered failed)) → OnErr r (WritesFront (served_line answered failed) between after) → IfErr r (λ fault. fault ≢ service.Port)
      → SaysByResult Holds Stays r port count before after
  says_all (Ok done) answered failed before between after sum holds listening served front other =
      (listening_line port ++ served_line answered failed, (answered, failed, sum, holds, refl), Appends-trans before between after (listening_line port) (served_line answered failed) listening served)
  says_all (Err service.Port) answered failed before between after sum holds listening served front other = absurd (other refl)
  says_all (Err service.Write) answered failed before between after sum holds listening served front other =
      inr (listening_line port ++ served_line answered failed, (answered, failed, sum, holds, refl), front_behind (listening_line port) (served_line answered failed) before between after listening front)
  says_all (Err service.OutOfMemory) answered failed before between after sum holds listening served front other =
      inr (listening_line port ++ served_line answered failed, (answered, failed, sum, holds, refl), front_behind (listening_line port) (served_line answered failed) before between after listening front)
