use Rattle.moo_load.{proofs.Words.{◌≡◌, ap, ◌∙◌, from_err, Held, Maps, no_maps}, proofs.One.Entries.{entries_of}, proofs.ReadBack.Dumped.{lines, text_is, fit, number_by, numbers_are, slots_are_next, all_read}}
use Rattle.moo_load.proofs.reading.read_lines.Goals as goal

pub returns-in_err-head-clause-err : goal.returns-in_err-head-clause-err
returns-in_err-head-clause-err c = from_err c.from_residual.result c.from_residual.ensures.1 (λ fault own some s held few same. c.in_err-head.ensures.err (λ e. some (own ∙ e)) s (lines s held) held (text_is s held c.args.text.now same))

pub returns-in_err-take_lines-clause-err : goal.returns-in_err-take_lines-clause-err
returns-in_err-take_lines-clause-err c =
    let first = c.set_head.new.self.maps in
    let begun : first ≡ record no_maps { head = c.in_ok-head.head } = ap (λ (h : Held). h.maps) c.set_head.ensures ∙ ap (λ (m : Maps). record m { head = c.in_ok-head.head }) c.new-rows.ensures.maps in
    from_err c.from_residual-in_err-take_lines.result c.from_residual-in_err-take_lines.ensures.1 (λ fault own some s held few same.
    let h = c.in_ok-head.ensures.ok s (lines s held) held (text_is s held c.args.text.now same) in
    c.in_err-take_lines.ensures.err (λ e. some (own ∙ e)) (entries_of s) (fit s held) (numbers_are s held first c.in_ok-head.head begun h.0 few) h.1)

pub returns-in_err-take_slots-clause-err : goal.returns-in_err-take_slots-clause-err
returns-in_err-take_slots-clause-err c =
    let first = c.set_head.new.self.maps in
    let begun : first ≡ record no_maps { head = c.in_ok-head.head } = ap (λ (h : Held). h.maps) c.set_head.ensures ∙ ap (λ (m : Maps). record m { head = c.in_ok-head.head }) c.new-rows.ensures.maps in
    from_err c.from_residual-in_err-take_slots.result c.from_residual-in_err-take_slots.ensures.1 (λ fault own some s held few same.
    let h = c.in_ok-head.ensures.ok s (lines s held) held (text_is s held c.args.text.now same) in
    let taken = c.in_ok-take_lines.ensures.put (entries_of s) (fit s held) h.1 in
    c.in_err-take_slots.ensures.err (λ e. some (own ∙ e)) (number_by s held) (entries_of s) (fit s held) (slots_are_next s held first c.in_ok-head.head begun h.0 c.take_lines.new.rows.maps taken) h.1)

pub returns-clause-put : goal.returns-clause-put
returns-clause-put c s held same =
    let first = c.set_head.new.self.maps in
    let begun : first ≡ record no_maps { head = c.in_ok-head.head } = ap (λ (h : Held). h.maps) c.set_head.ensures ∙ ap (λ (m : Maps). record m { head = c.in_ok-head.head }) c.new-rows.ensures.maps in
    let h = c.in_ok-head.ensures.ok s (lines s held) held (text_is s held c.args.text.now same) in
    let taken = c.in_ok-take_lines.ensures.put (entries_of s) (fit s held) h.1 in
    let next = slots_are_next s held first c.in_ok-head.head begun h.0 c.take_lines.new.rows.maps taken in
    all_read s held first c.in_ok-head.head begun h.0 c.take_lines.new.rows.maps taken c.take_slots.new.rows.maps (c.in_ok-take_slots.ensures.put (number_by s held) (entries_of s) (fit s held) next h.1)
