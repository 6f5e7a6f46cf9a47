-- The lines of entries that fit tell the entries.
use Rattle.moo_load.{proofs.Words.{◌≡◌, ℕ, List, [], ◌∷◌, ◌++◌, refl, sym, ap, ◌∙◌, append_assoc, codes, flat_map, AllByRecursion, drop, false≢true, Decides-eqb, Fits, Entry, an_object, a_property, a_slot, a_verb, a_petition, entry_text, entry_lines, entry_values, list_of, print, word_text}, proofs.One.Texts.{one_list}, proofs.One.Values.{one_object, one_property, one_slot, one_verb, one_petition}, proofs.Taken.{kind, line_of, no_end, one_word, text_is, word_of}}

-- the definer of a slot is that of its property
abbrev pub IsOwn : Entry → Type 0
IsOwn (a_slot x p s) = s.definer ≡ p.0
IsOwn e = Unit {0}

-- what an entry prints is within the limits, and a slot is of its property
abbrev pub IsFit : Entry → Type 0
IsFit e = AllByRecursion Fits (entry_values e) × IsOwn e

-- the word of an entry's line and its values tell the entry
same_entry : (e f : Entry) → IsOwn e → IsOwn f → word_of e ≡ word_of f → entry_values e ≡ entry_values f → e ≡ f
same_entry (an_object x a) (an_object y b) own_e own_f word same = let p = one_object x y a b same in λ i. an_object (p.0 i) (p.1 i)
same_entry (a_property x m) (a_property y n) own_e own_f word same = let p = one_property (record { definer = x; name = m }) (record { definer = y; name = n }) same in λ i. a_property (p i).definer (p i).name
same_entry (a_slot x p s) (a_slot y n t) own_e own_f word same = let k = one_slot x y p n s t own_e own_f same in λ i. a_slot (k.0 i) (k.1 i) (k.2 i)
same_entry (a_verb x a) (a_verb y b) own_e own_f word same = let p = one_verb x y a b same in λ i. a_verb (p.0 i) (p.1 i)
same_entry (a_petition a) (a_petition b) own_e own_f word same = ap a_petition (one_petition a b same)
same_entry e f own_e own_f word same = absurd (false≢true ((Decides-eqb (kind (word_of e)) (kind (word_of f))).1 (ap kind word)))

parts : (e : Entry) (r : List ℕ) → entry_text e ++ r ≡ word_text (word_of e) ++ 32 ∷ (print (list_of (entry_values e)) ++ 10 ∷ r)
parts e r = ap (λ (t : List ℕ). t ++ r) (text_is e) ∙ append_assoc (line_of e) (10 ∷ []) r ∙ append_assoc (word_text (word_of e)) (32 ∷ print (list_of (entry_values e))) (10 ∷ r)

one_entry : (e f : Entry) (r q : List ℕ) → IsFit e → IsFit f → entry_text e ++ r ≡ entry_text f ++ q → (e ≡ f) × (r ≡ q)
one_entry e f r q fe ff same =
    let o = one_word (word_of e) (word_of f) _ _ (sym (parts e r) ∙ same ∙ parts f q) in
    let v = one_list (entry_values e) (entry_values f) (10 ∷ r) (10 ∷ q) fe.0 ff.0 o.1 in
    (same_entry e f fe.1 ff.1 o.0 v.0, ap (drop 1) v.1)

more : (e : Entry) (es : List Entry) → entry_lines (e ∷ es) ≡ entry_text e ++ entry_lines es
more e es = append_assoc (entry_text e) (flat_map entry_text es) (codes "end\n")

-- the lines of a dump tell all of its entries
pub one_entries : (es fs : List Entry) → AllByRecursion IsFit es → AllByRecursion IsFit fs → entry_lines es ≡ entry_lines fs → es ≡ fs
one_entries [] [] a b same = refl
one_entries [] (f ∷ fs) a b same = absurd (no_end f (entry_lines fs) (sym (more f fs) ∙ sym same))
one_entries (e ∷ es) [] a b same = absurd (no_end e (entry_lines es) (sym (more e es) ∙ same))
one_entries (e ∷ es) (f ∷ fs) a b same =
    let o = one_entry e f (entry_lines es) (entry_lines fs) a.0 b.0 (sym (more e es) ∙ same ∙ more f fs) in
    let rest = one_entries es fs a.1 b.1 o.1 in
    λ i. o.0 i ∷ rest i
