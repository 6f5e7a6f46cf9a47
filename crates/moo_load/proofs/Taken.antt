-- The line of an entry, split into its word and its values.
use Rattle.moo_load.{proofs.Words.{arith, ◌≡◌, ℕ, ◌+◌, List, [], ◌∷◌, ◌++◌, get_or, refl, sym, ap, ◌∙◌, false≢true, Decides-eqb, ObjNo, Value, print, ObjRow, PetitionId, PetitionRow, PropId, VerbRow, Maps, Property, list_of, Object, PropertyWord, Verb, Petition, Entry, an_object, a_property, a_slot, a_verb, a_petition, entry_text, entry_values, EntryFits, ArePrinted, word_text, slot_line_put, LastSlot, Name, codes, append_cancel_right}, specs.declared.line.Word.{Word}, specs.declared.line.Word.TheVariants.{Slot}}
use Rattle.moo_world.specs.World.{Slot as ASlot}

abbrev pub word_of : Entry → Word
word_of (an_object x row) = Object
word_of (a_property x n) = PropertyWord
word_of (a_slot x p s) = Slot
word_of (a_verb x v) = Verb
word_of (a_petition e) = Petition

-- the line of an entry without its end
abbrev pub line_of : Entry → List ℕ
line_of e = word_text (word_of e) ++ 32 ∷ print (list_of (entry_values e))

pub text_is : (e : Entry) → entry_text e ≡ line_of e ++ 10 ∷ []
text_is (an_object x row) = refl
text_is e = refl

pub line_is : (line : List ℕ) (e : Entry) → line ++ 10 ∷ [] ≡ entry_text e → line ≡ line_of e
line_is line e same = append_cancel_right line (line_of e) (10 ∷ []) (same ∙ text_is e)

-- a number that tells the words of lines, and the end, from one another
abbrev mark : List ℕ → ℕ
mark text = get_or text 0 0 + get_or text 1 0

pub no_end : (e : Entry) (r : List ℕ) → entry_text e ++ r ≡ codes "end\n" → ⊥
no_end (an_object x a) r same = false≢true ((Decides-eqb 209 211).1 (ap mark same))
no_end e r same = false≢true ((Decides-eqb (mark (entry_text e ++ r)) 211).1 (ap mark same))

-- the words of lines tell one another apart
pub one_word : (v w : Word) (r q : List ℕ) → word_text v ++ 32 ∷ r ≡ word_text w ++ 32 ∷ q → (v ≡ w) × (r ≡ q)
one_word v w r q e = grind (arith, false≢true, Decides-eqb)

-- the word and the literal of the line of an entry
pub split_is : (line literal : List ℕ) (word : Word) (e : Entry) → EntryFits e → line ≡ word_text word ++ 32 ∷ literal → line ++ 10 ∷ [] ≡ entry_text e → (word ≡ word_of e) × ArePrinted (entry_values e) literal
split_is line literal word e within split same =
    let o = one_word word (word_of e) literal (print (list_of (entry_values e))) (sym split ∙ line_is line e same) in
    (o.0, record { fit = within.values; printed = o.1 })

-- ---- what was read of the line

-- what holds of lists of values that are printed so holds of those of an entry
pub of_values : (Q : List Value → Type 0) (literal : List ℕ) → ((v : Value) (vs : List Value) → ArePrinted (v ∷ vs) literal → Q (v ∷ vs)) → (e : Entry) → ArePrinted (entry_values e) literal → Q (entry_values e)
of_values Q literal h (an_object x row) are = h _ _ are
of_values Q literal h e are = h _ _ are

abbrev pub kind : Word → ℕ
kind Object = 0
kind PropertyWord = 1
kind Slot = 2
kind Verb = 3
kind Petition = 4

-- what is said of each entry of a word
abbrev pub EachOf : Word → (Entry → Type 0) → Type 0
EachOf Object Q = (x : ObjNo) (row : ObjRow) → Q (an_object x row)
EachOf PropertyWord Q = (x : ObjNo) (n : Name) → Q (a_property x n)
EachOf Slot Q = (x : ObjNo) (p : Property) (k : ASlot) → Q (a_slot x p k)
EachOf Verb Q = (x : ObjNo) (v : VerbRow) → Q (a_verb x v)
EachOf Petition Q = (e : PetitionId × PetitionRow) → Q (a_petition e)

pub of_word : (word : Word) (Q : Entry → Type 0) → EachOf word Q → (e : Entry) → word ≡ word_of e → Q e
of_word word Q f e g = grind (arith, false≢true, Decides-eqb)

-- what holds of each entry of a word with the values that were read holds of the entry of the line
pub of_line : (line literal : List ℕ) (word own : Word) (values given : List Value) (Q : Entry → Type 0) → line ≡ word_text word ++ 32 ∷ literal → word ≡ own → given ≡ values → ((v : Value) (vs : List Value) → ArePrinted (v ∷ vs) literal → values ≡ v ∷ vs)
    → EachOf own (λ e. EntryFits e → given ≡ entry_values e → Q e) → (e : Entry) → EntryFits e → line ++ 10 ∷ [] ≡ entry_text e → Q e
of_line line literal word own values given Q split is plain read each e within same =
    let s = split_is line literal word e within split same in
    of_word own (λ e. EntryFits e → given ≡ entry_values e → Q e) each e (sym is ∙ s.0) within (plain ∙ of_values (λ l. values ≡ l) literal read e s.1)

pub no_slot_put : (t : LastSlot × Maps) (number : Property → PropId) (e : Entry) → (word_of e ≡ Slot → ⊥) → t ≡ slot_line_put number e t
no_slot_put t number (a_slot x p k) other = absurd (other refl)
no_slot_put t number e other = refl
