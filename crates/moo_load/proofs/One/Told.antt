-- A dump names one state.
use Rattle.moo_load.{proofs.Words.{◌≡◌, ℕ, pos, List, ◌∷◌, ◌++◌, drop, refl, sym, ap, ◌∙◌, decimal, filter_map, Value, Int, Obj, State, heading, dump, IsHeld, AreTheSame, AreRowsOf, all_weaker, entry_lines, subst, all_properties, first_head}, proofs.One.Entries.{entries_of, dump_is}, proofs.One.Texts.{one_print}, proofs.One.Values.{integer_in, object_in, size_in}, proofs.One.Injective.{one_entries, IsFit}, proofs.ReadBack.Said.{Good, all_good}, proofs.Headed.{count_fits, lines_are, top_fits, top_of, top_line}, proofs.ReadBack.Fit.{properties_are}, proofs.ReadBack.Taken.{property_in}, proofs.ReadBack.Whole.{rows_are, made_by}, proofs.Shown.Good.{same_state}}

-- the two lines of the heading, and what follows
one_heading : (s t : State) → IsHeld s → IsHeld t → (a b : List ℕ) → heading s ++ a ≡ heading t ++ b → (s.seq ≡ t.seq) × (s.world.top ≡ t.world.top) × (a ≡ b)
one_heading s t held_s held_t a b e =
    let f : decimal s.seq ++ 10 ∷ (top_line s ++ 10 ∷ a) ≡ decimal t.seq ++ 10 ∷ (top_line t ++ 10 ∷ b) = ap (drop 4) (sym (lines_are s a) ∙ e ∙ lines_are t b) in
    let o = one_print (Int (pos s.seq)) (Int (pos t.seq)) (10 ∷ (top_line s ++ 10 ∷ a)) (10 ∷ (top_line t ++ 10 ∷ b)) (count_fits s.seq held_s.limit).0 (count_fits t.seq held_t.limit).0 refl refl f in
    let p = one_print (Obj (top_of s)) (Obj (top_of t)) (10 ∷ a) (10 ∷ b) (top_fits s held_s).0 (top_fits t held_t).0 refl refl (ap (drop 5) o.1) in
    (ap (λ (v : Value). size_in (integer_in v)) o.0, ap (λ (v : Value). (object_in v).0) p.0, ap (drop 1) p.1)

-- the lines are read as the same rows, which show both
pub told : (s t : State) → IsHeld s → IsHeld t → dump s ≡ dump t → AreTheSame s t
told s t held_s held_t e =
    let h = one_heading s t held_s held_t (entry_lines (entries_of s)) (entry_lines (entries_of t)) (sym (dump_is s) ∙ e ∙ dump_is t) in
    let fit_s = all_weaker (Good s held_s.formed) IsFit (λ e g. (g.0.0.values, g.0.1)) (entries_of s) (all_good s held_s.formed) in
    let fit_t = all_weaker (Good t held_t.formed) IsFit (λ e g. (g.0.0.values, g.0.1)) (entries_of t) (all_good t held_t.formed) in
    let es : entries_of s ≡ entries_of t = one_entries (entries_of s) (entries_of t) fit_s fit_t h.2 in
    let all : all_properties s.world ≡ all_properties t.world = sym (properties_are s) ∙ ap (filter_map property_in) es ∙ properties_are t in
    let m = made_by (all_properties s.world) (entries_of s) (first_head s) in
    let same : m ≡ made_by (all_properties t.world) (entries_of t) (first_head t) = λ i. made_by (all i) (es i) (record { top = h.1 i; next_prop = 1; next_verb = 1; next_petition = 1; seq = h.0 i }) in
    let a = same_state s held_s.formed m (rows_are s held_s.formed) in
    let b = same_state t held_t.formed m (subst (AreRowsOf t) (sym same) (rows_are t held_t.formed)) in
    record { seq = sym a.seq ∙ b.seq; top = sym a.top ∙ b.top; objects = sym a.objects ∙ b.objects; petitions = sym a.petitions ∙ b.petitions }
