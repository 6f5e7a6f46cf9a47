-- The printed values of a list, read one after another.
use Rattle.moo_load.proofs.Words.{◌≡◌, ℕ, true, false, Result, List, [], ◌∷◌, ◌++◌, length, drop, Ok, Err, ◌≢◌, refl, sym, ap, subst, ◌∙◌, append_assoc, AllByRecursion, drop_at, LiteralFault, Value, Str, a_list, gather, Fits, Ends, Front, print, print_items, printed, prepend_printed, ArePrinted, append-nil}
use Rattle.moo_value.{proofs.Results.{is_ok}, specs.declared.fault.LiteralFault.TheVariants.{OutOfMemory}, specs.Reading.{Fails}}

-- what is printed after a value of a list
abbrev pub after_value : List Value → List ℕ
after_value more = print_items false (gather more)

-- the values that are still to be read, the next one first, and their text
pub record Left (values done : List Value) (rest : List ℕ) : Type 0 where
  pub next : Value
  pub more : List Value
  pub all : values ≡ done ++ (next ∷ more)
  pub fits : Fits next
  pub fit : AllByRecursion Fits more
  pub printed : rest ≡ print next ++ after_value more

pub ends_before : (v : Value) (more : List Value) (r : List ℕ) → Ends v (after_value more ++ r)
ends_before (Str s) more r = tt
ends_before (a_list vs) more r = tt
ends_before v [] r = refl
ends_before v (w ∷ more) r = rw (prepend_printed false w (gather more)) refl

-- nothing is read yet
pub left_first : (v : Value) (vs : List Value) (literal rest : List ℕ) → ArePrinted (v ∷ vs) literal → literal ≡ 123 ∷ rest → Left (v ∷ vs) [] rest
left_first v vs literal rest are is =
    let whole : 123 ∷ rest ≡ 123 ∷ print_items true (gather (v ∷ vs)) = sym is ∙ are.printed in
    let inner : rest ≡ print_items true (gather (v ∷ vs)) = cc in
    record { next = v; more = vs; all = refl; fits = are.fit.0; fit = are.fit.1; printed = inner ∙ prepend_printed true v (gather vs) }

-- the text begins with the next value
pub next_front : {values done : List Value} {rest : List ℕ} (l : Left values done rest) → Front rest l.next (length (print l.next))
next_front {rest = rest} l = subst (λ (b : List ℕ). Front b l.next (length (print l.next))) (sym l.printed) (printed l.next (after_value l.more) l.fits (subst (Ends l.next) (append-nil (after_value l.more)) (ends_before l.next l.more [])))

abbrev Read : Value → ℕ → Result (Value × ℕ) LiteralFault
Read v n = Ok (v, n)

-- what gives a value has no fault
pub refused : {Y : Type 0} (f : LiteralFault) (y : Y) → Fails f (Ok y) → f ≢ OutOfMemory → ⊥
refused OutOfMemory y is some = some refl
refused f y is some = let h : Ok y ≡ Err f = is in cc

-- the next value is what was read, and the text after it is that of the others
pub next_read : {values done : List Value} {rest : List ℕ} (l : Left values done rest) (value : Value) (used : ℕ) → Read l.next (length (print l.next)) ≡ Read value used → (l.next ≡ value) × (drop used rest ≡ after_value l.more)
next_read {rest = rest} l value used read =
    let same = is_ok (l.next, length (print l.next)) (value, used) read in
    let count : length (print l.next) ≡ used = ap (λ (x : Value × ℕ). x.1) same in
    (ap (λ (x : Value × ℕ). x.0) same, ap (λ (n : ℕ). drop n rest) (sym count) ∙ ap (drop (length (print l.next))) l.printed ∙ drop_at (print l.next) (after_value l.more) (length (print l.next)) refl)

-- it was the last one
pub last_read : {values done : List Value} {rest : List ℕ} (l : Left values done rest) (value : Value) (used : ℕ) → Read l.next (length (print l.next)) ≡ Read value used → drop used rest ≡ 125 ∷ [] → done ++ (value ∷ []) ≡ values
last_read {values = values} {done = done} l value used read end =
    let n = next_read l value used read in
    elim l.more as (λ more. l.more ≡ more → done ++ (value ∷ []) ≡ values) [
      | [] ↦ λ is. sym (l.all ∙ ap (λ (m : List Value). done ++ (l.next ∷ m)) is ∙ ap (λ (v : Value). done ++ (v ∷ [])) n.0)
      | w ∷ ws ↦ λ is. absurd (let e : 44 ∷ 32 ∷ (print w ++ after_value ws) ≡ 125 ∷ [] = sym (prepend_printed false w (gather ws)) ∙ sym (ap after_value is) ∙ sym n.1 ∙ end in cc)
    ] refl

-- another one follows
pub one_more : {values done : List Value} {rest : List ℕ} (l : Left values done rest) (value : Value) (used : ℕ) (after : List ℕ) → Read l.next (length (print l.next)) ≡ Read value used → drop used rest ≡ 44 ∷ 32 ∷ after → Left values (done ++ (value ∷ [])) after
one_more {values = values} {done = done} l value used after read on =
    let n = next_read l value used read in
    elim l.more as (λ more. l.more ≡ more → AllByRecursion Fits more → Left values (done ++ (value ∷ [])) after) [
      | [] ↦ λ is fit. absurd (let e : 125 ∷ [] ≡ 44 ∷ 32 ∷ after = sym (ap after_value is) ∙ sym n.1 ∙ on in cc)
      | w ∷ ws ↦ λ is fit. record {
        next = w;
        more = ws;
        all = l.all ∙ ap (λ (m : List Value). done ++ (l.next ∷ m)) is ∙ ap (λ (v : Value). done ++ (v ∷ w ∷ ws)) n.0 ∙ sym (append_assoc done (value ∷ []) (w ∷ ws));
        fits = fit.0;
        fit = fit.1;
        printed = ap (drop 2) (sym (sym (prepend_printed false w (gather ws)) ∙ sym (ap after_value is) ∙ sym n.1 ∙ on));
      }
    ] refl l.fit

-- so one of the two follows
pub no_other : {values done : List Value} {rest : List ℕ} (l : Left values done rest) (value : Value) (used : ℕ) → Read l.next (length (print l.next)) ≡ Read value used → (drop used rest ≡ 125 ∷ [] → ⊥) → ((after : List ℕ) → drop used rest ≡ 44 ∷ 32 ∷ after → ⊥) → ⊥
no_other {rest = rest} l value used read end on =
    let n = next_read l value used read in
    elim l.more as (λ more. l.more ≡ more → ⊥) [ [] ↦ λ is. end (n.1 ∙ ap after_value is) | w ∷ ws ↦ λ is. on (print w ++ after_value ws) (n.1 ∙ ap after_value is ∙ prepend_printed false w (gather ws)) ] refl
