-- A dump has a line for each property and each verb.
use Rattle.moo_load.{proofs.Words.{◌<◌, ◌≤◌, List, [], ◌∷◌, ◌++◌, length, Option, Some, None, ap, subst, arith, codes, cons_option, filter_map, flat_map, length-append, heading, dump, State, Entry, all_properties, all_verbs, an_object, entry_text, HasNumbers}, proofs.One.Entries.{entries_of, dump_is}, proofs.ReadBack.Fit.{properties_are, verbs_are}, proofs.ReadBack.Taken.{property_in, verb_in}}

some_text : (e : Entry) → 0 < length (entry_text e)
some_text (an_object x row) = omega arith
some_text e = omega arith

-- entries are no more than the bytes of their lines
few_entries : (es : List Entry) → length es ≤ length (flat_map entry_text es)
few_entries [] = omega arith
few_entries (e ∷ es) = let some = some_text e in let rest = few_entries es in let both = length-append (entry_text e) (flat_map entry_text es) in omega (arith, some, rest, both)

few_made : {A B : Type 0} (f : A → Option B) (l : List A) → length (filter_map f l) ≤ length l
few_made f [] = omega arith
few_made f (x ∷ l) = let rest = few_made f l in elim (f x) as (λ o. length (cons_option o (filter_map f l)) ≤ length (x ∷ l)) [ None ↦ omega (arith, rest) | Some b ↦ omega (arith, rest) ]

-- a state whose dump isn't too long has a number left for each property and each verb
pub has_numbers : (s : State) → length (dump s) < 4294967295 → HasNumbers s
has_numbers s short =
    let es = entries_of s in
    let lines = flat_map entry_text es in
    let whole = ap length (dump_is s) in
    let a = length-append (heading s) (lines ++ codes "end\n") in
    let b = length-append lines (codes "end\n") in
    let c = few_entries es in
    let p : length (all_properties s.world) ≤ length es = subst (λ l. length l ≤ length es) (properties_are s) (few_made property_in es) in
    let v : length (all_verbs s.world) ≤ length es = subst (λ l. length l ≤ length es) (verbs_are s) (few_made verb_in es) in
    record { properties = omega (arith, short, whole, a, b, c, p); verbs = omega (arith, short, whole, a, b, c, v) }
