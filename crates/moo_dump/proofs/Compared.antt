-- A text that is compared with what it is to be, piece by piece.
use Rattle.moo_dump.proofs.Words.{◌≡◌, ℕ, ◌+◌, ◌<◌, ◌≤◌, List, ◌++◌, length, take, drop, get_or, Some, refl, sym, ap, subst, ◌∙◌, append_assoc, arith, slice_get, codes, take-append-le, take-append-drop, take-take, CompareFault, PartAt, TellsDifference, heading, dump, objects_text, petitions_text, Maps, state_of}
use Rattle.std.{proofs.Common.{◌≢◌, inl, inr}, proofs.Math.Seq.{take-add, take-append-add}, proofs.lemmas.Bool.{cases_lt}, proofs.lemmas.List.{length-take-le, length-append, get_or-append-add, get_or_append_left}, proofs.lemmas.Option.{slice_get_past, slice_get-get_or, none-some}}

get_first : (xs ys : List ℕ) (n : ℕ) → n < length xs → slice_get (xs ++ ys) n ≡ slice_get xs n
get_first xs ys n less =
    slice_get-get_or (xs ++ ys) n 0 (omega (arith, length-append xs ys)) ∙ ap (λ (x : ℕ). Some x) (get_or_append_left xs ys 0 n less) ∙ sym (slice_get-get_or xs n 0 less)

get_second : (xs ys : List ℕ) (n : ℕ) → slice_get (xs ++ ys) (length xs + n) ≡ slice_get ys n
get_second xs ys n = elim (cases_lt n (length ys)) [
  | inl less ↦ slice_get-get_or (xs ++ ys) (length xs + n) 0 (omega (arith, length-append xs ys)) ∙ ap (λ (x : ℕ). Some x) (get_or-append-add xs ys n 0) ∙ sym (slice_get-get_or ys n 0 less)
  | inr past ↦ slice_get_past (xs ++ ys) (length xs + n) (omega (arith, length-append xs ys)) ∙ sym (slice_get_past ys n past)
]

get_after : (text : List ℕ) (at n : ℕ) → at ≤ length text → slice_get text (at + n) ≡ slice_get (drop at text) n
get_after text at n within =
    let e : length (take at text) ≡ at = length-take-le at text within in
    (λ i. slice_get (sym (take-append-drop at text) i) (sym e i + n)) ∙ get_second (take at text) (drop at text) n

-- where a text departs from a piece, it departs from each text that has the piece there
pub departs : (text piece : List ℕ) (at count : ℕ) → at + count ≤ length text → count < length piece → take count (drop at text) ≡ take count piece → slice_get piece count ≢ slice_get (drop at text) count
    → (rest : List ℕ) → PartAt (take at text ++ (piece ++ rest)) text (at + count)
departs text piece at count within short shared differ rest = grind (arith, length-take-le, take-append-add, take-append-le, take-add, get_second, get_first, get_after)

-- a text that goes on after all of another one departs from it there
pub goes_on : (text : List ℕ) (at : ℕ) → at < length text → PartAt (take at text) text at
goes_on text at more =
    record {
      within = omega arith;
      same = take-take at at text (omega arith);
      next = λ same. none-some (get_or text at 0)
          (sym (slice_get_past (take at text) at (omega (arith, length-take-le at text (omega arith)))) ∙ same ∙ slice_get-get_or text at 0 more);
    }

-- ---- pieces, one after another

-- the pieces of a dump
pub parts : (t : Maps) → heading (state_of t) ++ (objects_text t ++ (petitions_text t ++ codes "end\n")) ≡ dump (state_of t)
unfolding dump
parts t = refl

-- The text up to a place is the one before, and what there is of the pieces up to it; these are left of them.
abbrev pub IsComparedTo : List ℕ → List ℕ → List ℕ → List ℕ → Type 0
IsComparedTo before all now left = before ++ all ≡ now ++ left

-- a fault at one of them is a fault at all of them
pub fault_at : (before all now ahead piece left text shown : List ℕ) (fault new : CompareFault) → IsComparedTo before all now ahead → ahead ≡ piece ++ left → shown ≡ piece → new ≡ fault → ((rest : List ℕ) → TellsDifference (now ++ (shown ++ rest)) text fault) → (rest : List ℕ) → TellsDifference (before ++ (all ++ rest)) text new
fault_at before all now ahead piece left text shown fault new compared is own same tells rest = grind (arith, append_assoc)

-- ---- the parts of a dump, of which so much is compared

module _ (t : Maps) (read one two three : List ℕ) (heading_read : read ≡ heading (state_of t)) where
  pub headed : read ++ (objects_text t ++ (petitions_text t ++ codes "end\n")) ≡ dump (state_of t)
  headed = ap (λ (h : List ℕ). h ++ (objects_text t ++ (petitions_text t ++ codes "end\n"))) heading_read ∙ parts t

  pub with_objects : one ≡ read ++ objects_text t → one ++ (petitions_text t ++ codes "end\n") ≡ dump (state_of t)
  with_objects e = ap (λ (h : List ℕ). h ++ (petitions_text t ++ codes "end\n")) e ∙ append_assoc read (objects_text t) (petitions_text t ++ codes "end\n") ∙ headed

  pub with_petitions : one ≡ read ++ objects_text t → two ≡ one ++ petitions_text t → two ++ codes "end\n" ≡ dump (state_of t)
  with_petitions e f = ap (λ (h : List ℕ). h ++ codes "end\n") f ∙ append_assoc one (petitions_text t) (codes "end\n") ∙ with_objects e

  pub with_end : one ≡ read ++ objects_text t → two ≡ one ++ petitions_text t → three ≡ two ++ codes "end\n" → three ≡ dump (state_of t)
  with_end e f g = g ∙ with_petitions e f

-- one piece more is compared
pub next_compared : (before all now ahead piece left shown next : List ℕ) → IsComparedTo before all now ahead → ahead ≡ piece ++ left → shown ≡ piece → next ≡ now ++ shown → IsComparedTo before all next left
next_compared before all now ahead piece left shown next compared is own more = grind (arith, append_assoc)
