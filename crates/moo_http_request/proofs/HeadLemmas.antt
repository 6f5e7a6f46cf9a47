-- What the first bytes of an input say of its head.
use Rattle.moo_http_request.{proofs.Words.{◌⊎◌, inl, inr, ◌+◌, Option, length-append, ◌≡◌, ◌≢◌, ◌<◌, ◌≤◌, ℕ, List, [], ◌∷◌, ◌++◌, length, take, drop, arith, sym, ap, ◌∙◌, refl, take-append-drop, take-append-le, take_at, RequestHead, ReadsRequest, HasNoRequest, print_request, print_blank, RequestOverflows, print_request-append, Lacks, ShowsHead, IsClose, Grows}, specs.declared.head.HeadRead.{HeadRead}, specs.declared.head.HeadRead.TheVariants.{Whole, Refused, Empty}}
use Rattle.moo_http_request.specs.declared.head.TheConstants.{MAX_HEAD, MAX_LINES}

-- bytes are no empty input, whatever follows
not_empty : (bytes more : List ℕ) → 0 < length bytes → bytes ++ more ≢ []
not_empty bytes more h e = omega (arith, h, ap length e, length-append bytes more)

-- the first bytes have more than 32 lines, whatever follows
pub lacks-overflow : (bytes more : List ℕ) (room : ℕ) → 0 < length bytes → room ≡ MAX_LINES → RequestOverflows room bytes → Lacks (bytes ++ more)
lacks-overflow bytes more room some e over =
    (not_empty bytes more some, λ head rest h. let o = over more head rest h.reads in omega (arith, o, h.lines, e))

-- a head that stands at the front is no longer than the bytes only where they hold it
front_of : (bytes more text rest : List ℕ) → length text ≤ length bytes → bytes ++ more ≡ text ++ rest → bytes ≡ text ++ drop (length text) bytes
front_of bytes more text rest fits e =
    let front : take (length text) bytes ≡ text =
    sym (take-append-le (length text) bytes more fits) ∙ ap (take (length text)) e ∙ take_at text rest (length text) refl in
    sym (take-append-drop (length text) bytes) ∙ ap (λ (l : List ℕ). l ++ drop (length text) bytes) front

-- the first 8192 bytes hold no whole head
pub lacks-long : (bytes more : List ℕ) → length bytes ≡ MAX_HEAD → HasNoRequest bytes → Lacks (bytes ++ more)
lacks-long bytes more long none = (
  not_empty bytes more (omega (arith, long)),
  λ head rest h.
      let fits : length (print_request head) ≤ length bytes = omega (arith, long, h.size) in
      none head (drop (length (print_request head)) bytes) (h.reads.0, front_of bytes more (print_request head) rest fits h.reads.1),
)

not_nothing : (xs ys zs : List ℕ) → 0 < length ys → [] ≢ xs ++ (ys ++ zs)
not_nothing xs ys zs h e = omega (arith, h, ap length e, length-append xs (ys ++ zs), length-append ys zs)

-- no head is empty
pub no_empty_head : (head : RequestHead) (rest : List ℕ) → ¬ (ReadsRequest [] head rest)
no_empty_head head rest h = not_nothing (print_blank head.blank) head.method _ h.0.method.0 (h.1 ∙ print_request-append head rest)

-- ---- the last piece

-- the bytes without the last piece hold no head
pub record IsFresh (bytes : List ℕ) : Type 0 where
  pub before : List ℕ
  pub last : List ℕ
  pub is : bytes ≡ before ++ last
  pub piece : length last ≤ 1024
  pub none : HasNoRequest before

pub close_of : (bytes : List ℕ) (read : HeadRead) → IsFresh bytes → ShowsHead bytes read → IsClose bytes read
close_of bytes (Whole found) fresh s =
    let cases : (length (print_request s.head) ≤ length fresh.before) ⊎ (length fresh.before < length (print_request s.head)) = grind arith in
    elim cases [
      | inl fits ↦ absurd (fresh.none s.head (drop (length (print_request s.head)) fresh.before)
          (s.at.reads.0, front_of fresh.before fresh.last (print_request s.head) (drop found.spans.len bytes) fits (sym fresh.is ∙ s.at.reads.1)))
      | inr short ↦ (
          let whole : length bytes ≡ length fresh.before + length fresh.last = ap length fresh.is ∙ length-append fresh.before fresh.last in
          omega (arith, short, whole, fresh.piece, s.at.len))
    ]
close_of bytes Refused fresh s = tt
close_of bytes Empty fresh s = absurd s

pub fresh_next : (a b : Option (List ℕ)) (x y : List ℕ) → Grows a b x y → length y ≤ length x + 1024 → HasNoRequest x → IsFresh y
fresh_next a b x y grows small none =
    let whole : length y ≡ length x + length grows.given = ap length grows.grown ∙ length-append x grows.given in
    record { before = x; last = grows.given; is = grows.grown; piece = omega (arith, small, whole); none = none }

-- the whole input has no head
pub lacks_all : (bytes : List ℕ) → 0 < length bytes → HasNoRequest bytes → Lacks bytes
lacks_all [] some none = absurd (omega (arith, some))
lacks_all (b ∷ bytes) some none = ((λ e. cc), λ head rest h. none head rest h.reads)
