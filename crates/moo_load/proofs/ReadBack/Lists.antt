-- Lists, what stands in them, and their numbers; what options hold.
use Rattle.moo_load.proofs.Words.{◌≡◌, ℕ, zero, suc, ◌+◌, Option, Some, None, List, [], ◌∷◌, ◌++◌, map, length, refl, sym, ap, subst, ◌∙◌, ◌⊎◌, inl, inr, arith, append_assoc, length-append, slice_get, AllByRecursion, filter_map, flat_map, cons_option, same_Some, none-some, filter_map-append, at_number, Bool, IsDistinct, all_append, all_map, all_weaker, and_parts, cond, false≢true, find, list_all, option_and_then, option_map, ◌<◌, ◌≤◌, false, true}

-- ---- options

pub passed : {A : Type 0} (b : Bool) (a c : A) → cond b (Some a) None ≡ Some c → (b ≡ true) × (a ≡ c)
passed true a c h = (refl, same_Some a c h)
passed false a c h = absurd (none-some c h)

-- what is made of something is made of a thing
pub made_of : {A B : Type 0} (f : A → B) (o : Option A) (b : B) → option_map f o ≡ Some b → (a : A) × (o ≡ Some a) × (f a ≡ b)
made_of f None b e = absurd (none-some b e)
made_of f (Some a) b e = (a, refl, same_Some (f a) b e)

pub found_in : {A B : Type 0} (f : A → Option B) (o : Option A) (b : B) → option_and_then f o ≡ Some b → (a : A) × (o ≡ Some a) × (f a ≡ Some b)
found_in f None b e = absurd (none-some b e)
found_in f (Some a) b e = (a, refl, e)

-- ---- what stands in a list

-- it stands in the list
abbrev pub Stands : {A : Type 0} → A → List A → Type 0
Stands a [] = ⊥
Stands a (x ∷ l) = (a ≡ x) ⊎ Stands a l

pub stands_left : {A : Type 0} (a : A) (l m : List A) → Stands a l → Stands a (l ++ m)
stands_left a [] m h = absurd h
stands_left a (x ∷ l) m (inl h) = inl h
stands_left a (x ∷ l) m (inr h) = inr (stands_left a l m h)

pub stands_right : {A : Type 0} (a : A) (l m : List A) → Stands a m → Stands a (l ++ m)
stands_right a [] m h = h
stands_right a (x ∷ l) m h = inr (stands_right a l m h)

pub stands_flat : {A B : Type 0} (f : A → List B) (l : List A) (a : A) (b : B) → Stands a l → Stands b (f a) → Stands b (flat_map f l)
stands_flat f [] a b h k = absurd h
stands_flat f (x ∷ l) a b (inl h) k = stands_left b (f x) (flat_map f l) (subst (λ y. Stands b (f y)) h k)
stands_flat f (x ∷ l) a b (inr h) k = stands_right b (f x) (flat_map f l) (stands_flat f l a b h k)

pub stands_map : {A B : Type 0} (f : A → B) (l : List A) (a : A) → Stands a l → Stands (f a) (map f l)
stands_map f [] a h = absurd h
stands_map f (x ∷ l) a (inl h) = inl (ap f h)
stands_map f (x ∷ l) a (inr h) = inr (stands_map f l a h)

pub stands_made : {A B : Type 0} (f : A → Option B) (l : List A) (a : A) (b : B) → Stands a l → f a ≡ Some b → Stands b (filter_map f l)
stands_made f [] a b h k = absurd h
stands_made f (x ∷ l) a b h k =
    elim (f x) as (λ o. f x ≡ o → (a ≡ x) ⊎ Stands a l → (Stands a l → Stands b (filter_map f l)) → Stands b (cons_option o (filter_map f l))) [
      | None ↦ λ e h r. elim h [ inl s ↦ absurd (none-some b (sym e ∙ sym (ap f s) ∙ k)) | inr s ↦ r s ]
      | Some c ↦ λ e h r. elim h [ inl s ↦ inl (same_Some b c (sym k ∙ ap f s ∙ e)) | inr s ↦ inr (r s) ]
    ] refl h (λ s. stands_made f l a b s k)

-- each holds, so does one that stands there
pub of_all : {A : Type 0} (P : A → Type 0) (l : List A) (a : A) → AllByRecursion P l → Stands a l → P a
of_all P [] a h s = absurd s
of_all P (x ∷ l) a h (inl s) = subst P (sym s) h.0
of_all P (x ∷ l) a h (inr s) = of_all P l a h.1 s

-- what holds of each that stands there holds of all
pub all_of : {A : Type 0} (P : A → Type 0) (l : List A) → ((a : A) → Stands a l → P a) → AllByRecursion P l
all_of P [] h = tt
all_of P (x ∷ l) h = (h x (inl refl), all_of P l (λ a s. h a (inr s)))

pub each_map : {A B : Type 0} (P : B → Type 0) (f : A → B) (l : List A) → ((a : A) → Stands a l → P (f a)) → AllByRecursion P (map f l)
each_map P f l h = all_map P f l (all_of (λ a. P (f a)) l h)

pub each_flat : {A B : Type 0} (P : B → Type 0) (f : A → List B) (l : List A) → ((a : A) → Stands a l → AllByRecursion P (f a)) → AllByRecursion P (flat_map f l)
each_flat P f [] h = tt
each_flat P f (x ∷ l) h = all_append P (f x) (flat_map f l) (h x (inl refl)) (each_flat P f l (λ a s. h a (inr s)))

pub all_tested : {A : Type 0} (test : A → Bool) (l : List A) → list_all test l ≡ true → AllByRecursion (λ a. test a ≡ true) l
all_tested test [] e = tt
all_tested test (x ∷ l) e = let p = and_parts (test x) (list_all test l) e in (p.0, all_tested test l p.1)

pub all_made_by : {A B : Type 0} (P : B → Type 0) (f : A → Option B) (l : List A) → AllByRecursion (λ a. (b : B) → f a ≡ Some b → P b) l → AllByRecursion P (filter_map f l)
all_made_by P f [] h = tt
all_made_by P f (x ∷ l) h = elim (f x) as (λ o. f x ≡ o → AllByRecursion P (cons_option o (filter_map f l))) [ None ↦ λ e. all_made_by P f l h.1 | Some b ↦ λ e. (h.0 b e, all_made_by P f l h.1) ] refl

-- what each of a list has
pub of_holders : {A B : Type 0} (items : A → List B) (P : A × B → Type 0) (l : List A) → ((a : A) → Stands a l → (b : B) → Stands b (items a) → P (a, b)) → AllByRecursion P (flat_map (λ a. map (λ b. (a, b)) (items a)) l)
of_holders items P l h = each_flat P (λ a. map (λ b. (a, b)) (items a)) l (λ a s. each_map P (λ b. (a, b)) (items a) (h a s))

pub found_stands : {A : Type 0} (test : A → Bool) (l : List A) (a : A) → find test l ≡ Some a → Stands a l
found_stands test [] a e = absurd (none-some a e)
found_stands test (x ∷ l) a e = elim (test x) as (λ b. cond b (Some x) (find test l) ≡ Some a → Stands a (x ∷ l)) [ true ↦ λ h. inl (same_Some a x (sym h)) | false ↦ λ h. inr (found_stands test l a h) ] e

pub none_made : {A B : Type 0} (f : A → Option B) (l : List A) → AllByRecursion (λ a. f a ≡ None) l → filter_map f l ≡ []
none_made f [] a = refl
none_made f (x ∷ l) a = λ i. cons_option (a.0 i) (none_made f l a.1 i)

pub each_made : {A B : Type 0} (f : B → Option A) (made : A → B) → ((a : A) → f (made a) ≡ Some a) → (l : List A) → filter_map f (map made l) ≡ l
each_made f made again [] = refl
each_made f made again (x ∷ l) = λ i. cons_option (again x i) (each_made f made again l i)

pub made_flat : {A B C : Type 0} (f : B → Option C) (g : A → List B) (l : List A) → filter_map f (flat_map g l) ≡ flat_map (λ a. filter_map f (g a)) l
made_flat f g [] = refl
made_flat f g (x ∷ l) = filter_map-append f (g x) (flat_map g l) ∙ ap (λ k. filter_map f (g x) ++ k) (made_flat f g l)

pub split : {A : Type 0} (a : A) (l : List A) → Stands a l → (front back : List A) × (l ≡ front ++ a ∷ back)
split a [] s = absurd s
split a (x ∷ l) (inl s) = ([], l, (λ i. sym s i ∷ l))
split a (x ∷ l) (inr s) = let r = split a l s in (x ∷ r.0, r.1, ap (λ k. x ∷ k) r.2)

stands_between : {A : Type 0} (a : A) (front back : List A) → Stands a (front ++ a ∷ back)
stands_between a [] back = inl refl
stands_between a (x ∷ front) back = inr (stands_between a front back)

-- what stands in front of it isn't like it
pub before_differs : {A : Type 0} (alike : A → A → Bool) (a : A) (front back : List A) → IsDistinct alike (front ++ a ∷ back) → AllByRecursion (λ y. alike y a ≡ false) front
unfolding IsDistinct
before_differs alike a [] back d = tt
before_differs alike a (x ∷ front) back d = (of_all (λ y. alike x y ≡ false) (front ++ a ∷ back) a d.0 (stands_between a front back), before_differs alike a front back d.1)

pub distinct_weaker : {A : Type 0} (one other : A → A → Bool) → ((x y : A) → one x y ≡ false → other x y ≡ false) → (l : List A) → IsDistinct one l → IsDistinct other l
unfolding IsDistinct
distinct_weaker one other w [] d = tt
distinct_weaker one other w (x ∷ l) d = (all_weaker (λ y. one x y ≡ false) (λ y. other x y ≡ false) (w x) l d.0, distinct_weaker one other w l d.1)

pub alike_once : {A : Type 0} (alike : A → A → Bool) (l : List A) (a b : A) → IsDistinct alike l → Stands a l → Stands b l → alike a b ≡ true → alike b a ≡ true → a ≡ b
unfolding IsDistinct
alike_once alike [] a b d s t e f = absurd s
alike_once alike (x ∷ l) a b d (inl s) (inl t) e f = s ∙ sym t
alike_once alike (x ∷ l) a b d (inl s) (inr t) e f = absurd (false≢true (sym (of_all (λ y. alike x y ≡ false) l b d.0 t) ∙ ap (λ y. alike y b) (sym s) ∙ e))
alike_once alike (x ∷ l) a b d (inr s) (inl t) e f = absurd (false≢true (sym (of_all (λ y. alike x y ≡ false) l a d.0 s) ∙ ap (λ y. alike y a) (sym t) ∙ f))
alike_once alike (x ∷ l) a b d (inr s) (inr t) e f = alike_once alike l a b d.1 s t e f

-- ---- numbers

-- what is made of each by its number, if the first has this number
abbrev pub counted : {A B : Type 0} → (ℕ → A → B) → ℕ → List A → List B
counted made n [] = []
counted made n (x ∷ l) = made n x ∷ counted made (n + 1) l

got_at : {A : Type 0} (front back : List A) (x : A) (n : ℕ) → n ≡ length front → slice_get (front ++ x ∷ back) n ≡ Some x
got_at [] back x n e = ap (slice_get (x ∷ back)) e
got_at (y ∷ front) back x zero e = absurd (omega arith)
got_at (y ∷ front) back x (suc n) e = got_at front back x n (omega arith)

pub number_at : {A : Type 0} (front back : List A) (x : A) (n : ℕ) → n ≡ length front + 1 → at_number (front ++ x ∷ back) n ≡ Some x
number_at front back x zero e = absurd (omega arith)
number_at front back x (suc n) e = got_at front back x n (omega arith)

-- each of them has its number in the whole list
pub all_counted : {A B : Type 0} (P : B → Type 0) (made : ℕ → A → B) (whole front l : List A) (n : ℕ) → whole ≡ front ++ l → n ≡ length front + 1 → ((i : ℕ) (x : A) → at_number whole i ≡ Some x → P (made i x)) → AllByRecursion P (counted made n l)
all_counted P made whole front [] n e count h = tt
all_counted P made whole front (x ∷ l) n e count h = (
  h n x (ap (λ k. at_number k n) e ∙ number_at front l x n count),
  all_counted P made whole (front ++ x ∷ []) l (n + 1) (e ∙ sym (append_assoc front (x ∷ []) l)) (let c : length (front ++ x ∷ []) ≡ length front + 1 = length-append front (x ∷ []) in omega arith) h,
)

stands_from : {A B : Type 0} (made : ℕ → A → B) (l : List A) (n i : ℕ) (x : A) → slice_get l i ≡ Some x → Stands (made (n + i) x) (counted made n l)
stands_from made [] n i x e = absurd (none-some x e)
stands_from made (y ∷ l) n zero x e = let z : n + 0 ≡ n = omega arith in inl (λ j. made (z j) (same_Some x y (sym e) j))
stands_from made (y ∷ l) n (suc i) x e = let z : n + 1 + i ≡ n + suc i = omega arith in inr (subst (λ k. Stands (made k x) (counted made (n + 1) l)) z (stands_from made l (n + 1) i x e))

pub stands_counted : {A B : Type 0} (made : ℕ → A → B) (l : List A) (i : ℕ) (x : A) → at_number l i ≡ Some x → Stands (made i x) (counted made 1 l)
stands_counted made l zero x e = absurd (none-some x e)
stands_counted made l (suc i) x e = let z : 1 + i ≡ suc i = omega arith in subst (λ k. Stands (made k x) (counted made 1 l)) z (stands_from made l 1 i x e)

stands_at : {A : Type 0} (l : List A) (n : ℕ) (a : A) → slice_get l n ≡ Some a → Stands a l
stands_at [] n a e = absurd (none-some a e)
stands_at (x ∷ l) zero a e = inl (same_Some a x (sym e))
stands_at (x ∷ l) (suc n) a e = inr (stands_at l n a e)

pub numbered_stands : {A : Type 0} (l : List A) (n : ℕ) (a : A) → at_number l n ≡ Some a → Stands a l
numbered_stands l zero a e = absurd (none-some a e)
numbered_stands l (suc n) a e = stands_at l n a e

front_at : {A : Type 0} (front back : List A) (n : ℕ) (a : A) → n < length front → slice_get (front ++ back) n ≡ Some a → Stands a front
front_at [] back n a less e = absurd (omega arith)
front_at (x ∷ front) back zero a less e = inl (same_Some a x (sym e))
front_at (x ∷ front) back (suc n) a less e = inr (front_at front back n a (omega arith) e)

pub numbered_front : {A : Type 0} (front back : List A) (n : ℕ) (a : A) → n ≤ length front → at_number (front ++ back) n ≡ Some a → Stands a front
numbered_front front back zero a less e = absurd (none-some a e)
numbered_front front back (suc n) a less e = front_at front back n a (omega arith) e

one_place : {A : Type 0} (alike : A → A → Bool) (l : List A) → IsDistinct alike l → (i j : ℕ) (a b : A) → slice_get l i ≡ Some a → slice_get l j ≡ Some b → alike a b ≡ true → alike b a ≡ true → i ≡ j
unfolding IsDistinct
one_place alike [] d i j a b e f p q = absurd (none-some a e)
one_place alike (x ∷ l) d zero zero a b e f p q = refl
one_place alike (x ∷ l) d zero (suc j) a b e f p q = absurd (false≢true (sym (of_all (λ y. alike x y ≡ false) l b d.0 (stands_at l j b f)) ∙ ap (λ y. alike y b) (same_Some x a e) ∙ p))
one_place alike (x ∷ l) d (suc i) zero a b e f p q = absurd (false≢true (sym (of_all (λ y. alike x y ≡ false) l a d.0 (stands_at l i a e)) ∙ ap (λ y. alike y a) (same_Some x b f) ∙ q))
one_place alike (x ∷ l) d (suc i) (suc j) a b e f p q = ap (λ (n : ℕ). suc n) (one_place alike l d.1 i j a b e f p q)

-- two that are alike have one number
pub one_number : {A : Type 0} (alike : A → A → Bool) (l : List A) → IsDistinct alike l → (i j : ℕ) (a b : A) → at_number l i ≡ Some a → at_number l j ≡ Some b → alike a b ≡ true → alike b a ≡ true → i ≡ j
one_number alike l d zero j a b e f p q = absurd (none-some a e)
one_number alike l d (suc i) zero a b e f p q = absurd (none-some b f)
one_number alike l d (suc i) (suc j) a b e f p q = ap (λ (n : ℕ). suc n) (one_place alike l d i j a b e f p q)
