-- One step of a walk.
use Rattle.moo_props.proofs.Words.{◌≡◌, Bool, true, cond, filter, List, [], ◌∷◌, ◌++◌, map, sym, ap, ◌∙◌, append_assoc, append-nil}

module _ {A B : Type 0} (f : A → B) (found : List B) (left : List A) where
  pub listed : (es : List A) (e : A) (next : List B) → left ≡ e ∷ es → next ≡ found ++ f e ∷ [] → next ++ map f es ≡ found ++ map f left
  listed es e next is pushed = ap (λ l. l ++ map f es) pushed ∙ append_assoc found (f e ∷ []) (map f es) ∙ ap (λ l. found ++ map f l) (sym is)

  pub all_listed : left ≡ [] → found ≡ found ++ map f left
  all_listed is = sym (append-nil found) ∙ ap (λ l. found ++ map f l) (sym is)

-- the same of those that pass
pub kept : {A B : Type 0} (f : A → B) (test : A → Bool) (found : List B) (left es : List A) (e : A) → left ≡ e ∷ es → (next : List B) → test e ≡ true → next ≡ found ++ f e ∷ [] → next ++ map f (filter test es) ≡ found ++ map f (filter test left)
kept f test found left es e is next h pushed = listed f found (filter test left) (filter test es) e next (ap (filter test) is ∙ ap (λ b. cond b (e ∷ filter test es) (filter test es)) h) pushed
