use Rattle.moo_dump.{proofs.Words.{arith, ◌≡◌, ℕ, List, [], ◌++◌, sym, ap, ◌∙◌, append_assoc, Vec, flat_map, ids_defined, property_line_of}, proofs.ObjectLines.{object_printed, nothing_printed}, proofs.objects.object_lines.Goals.{in-Some+in_ok-put_object_line+in_ok-put_properties+in_ok-put_slots+in_ok-put_verbs, in_default}}
use Rattle.moo_dump.proofs.objects.object_lines.Goals as goal

joined : (n a b c d own names slots verbs : List ℕ) → n ≡ [] → a ≡ n ++ own → b ≡ a ++ names → c ≡ b ++ slots → d ≡ c ++ verbs → d ≡ own ++ (names ++ (slots ++ verbs))
joined n a b c d own names slots verbs e f g h k =
    k ∙ ap (λ (l : List ℕ). l ++ verbs) (h ∙ ap (λ (l : List ℕ). l ++ slots) (g ∙ ap (λ (l : List ℕ). l ++ names) (f ∙ ap (λ (l : List ℕ). l ++ own) e))) ∙ simp append_assoc

pub returns : goal.returns
returns g c =
    let t = (g.R.Rows.held c.args.rows.now).maps in
    elim c.match-object.branch [
      | in-Some+in_ok-put_object_line+in_ok-put_properties+in_ok-put_slots+in_ok-put_verbs w ↦
          let ids : w.ids_listed.result.now ≡ ids_defined t c.args.x = w.ids_listed.ensures ∙ c.requires.outline.listed c.args.x in
          ap (λ (v : Vec ℕ). v.items) w.text-is
          ∙ joined _ _ _ _ _ _ _ _ _ c.new-text.ensures.items w.in_ok-put_object_line.ensures
          (w.in_ok-put_properties.ensures ∙ ap (λ l. w.put_object_line.new.out.items ++ flat_map (property_line_of t c.args.x) l) ids)
          w.in_ok-put_slots.ensures w.in_ok-put_verbs.ensures
          ∙ sym (object_printed t c.requires.good c.args.x w.in-Some.row.now (sym w.in-Some.ensures))
      | in_default w ↦
          ap (λ (v : Vec ℕ). v.items) w.text-is ∙ c.new-text.ensures.items ∙ sym (nothing_printed t c.args.x (sym w.in_default.ensures))
    ]
