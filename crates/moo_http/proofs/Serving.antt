-- What serving a request comes to.
use Rattle.moo_http.{proofs.Words.{◌≡◌, ◌≢◌, inl, inr, ℕ, List, Option, refl, sym, subst, ◌∙◌, Bool, Result, Ok, Err, IfErr, IsErrAnd, Place, Takes, Asked, Request, ServeFault, Read, Write, OutOfMemory, response_with, response_text, AnswersAsked, Exchanged, Written, Traffic}, specs.Faults.{fault_of}}
use Rattle.moo_http_request.specs.declared.fault.ReadFault.{ReadFault}
use Rattle.moo_http_request.specs.declared.fault.ReadFault.TheVariants as read

-- ---- the request wasn't read

pub unread_at : (r : Result (Unit {0}) ServeFault) (fault : ReadFault) (place : Place) (bytes : Traffic) → IsErrAnd r (λ e. e ≡ fault_of fault) → bytes.after ≡ bytes.before → Exchanged r place place bytes
unread_at (Ok x) fault place bytes is unwritten = absurd is
unread_at (Err e) read.Read place bytes is unwritten = rw is (refl, unwritten)
unread_at (Err e) read.OutOfMemory place bytes is unwritten = rw is (unwritten, inl refl)

-- why it wasn't
pub unread_cause : {Failed : Type 0} (r : Result (Unit {0}) ServeFault) (fault : ReadFault) → IsErrAnd r (λ e. e ≡ fault_of fault) → (fault ≡ read.Read → Failed) → IfErr r (λ e. e ≡ Read → Failed)
unread_cause (Ok x) fault is cause = tt
unread_cause (Err e) read.Read is cause = λ same. cause refl
unread_cause (Err e) read.OutOfMemory is cause = λ same. (let both : OutOfMemory ≡ Read = sym is ∙ same in absurd cc)

-- nothing is written if memory is refused
pub written_nothing : (r : Result (Unit {0}) ServeFault) (before : Option (List ℕ)) (output : List ℕ) → IsErrAnd r (λ e. e ≡ OutOfMemory) → Written r before before output
written_nothing (Ok x) before output is = absurd is
written_nothing (Err e) before output is = subst (λ e. Written (Err e) before before output) (sym is) refl

-- ---- a request came

pub served : (r : Result (Unit {0}) ServeFault) (from to : Place) (bytes : Traffic) (is_head asks_why : Bool) (asked : Asked) → Takes bytes.left bytes.rest (Request is_head asks_why asked) → IfErr r (λ fault. fault ≢ Read)
    → AnswersAsked is_head asks_why asked r from to bytes.before bytes.after → Exchanged r from to bytes
served (Ok done) from to bytes is_head asks_why asked takes other (o, whys, wanted, answers, written) =
    (response_text is_head (response_with asks_why whys o), (Request is_head asks_why asked, takes, (o, whys, wanted, answers, refl)), written)
served (Err Write) from to bytes is_head asks_why asked takes other (o, whys, wanted, answers, written) =
    (response_text is_head (response_with asks_why whys o), (Request is_head asks_why asked, takes, (o, whys, wanted, answers, refl)), written.0, written.1)
served (Err Read) from to bytes is_head asks_why asked takes other it = absurd (other refl)
served (Err OutOfMemory) from to bytes is_head asks_why asked takes other (o, whys, wanted, answers, written) =
    (written, inr (response_text is_head (response_with asks_why whys o), (Request is_head asks_why asked, takes, (o, whys, wanted, answers, refl))))
