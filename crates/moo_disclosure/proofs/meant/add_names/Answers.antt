use Rattle.std.{proofs.Common.{◌≡◌, ◌∙◌, ◌++◌, [], map, length, take, sym, ap, rules}, proofs.Math.Seq.{take-append_seam}, proofs.lemmas.List.{take_all, append-nil}}
use Rattle.moo_rows.specs.Links.{defined_left}
use Rattle.moo_props.{proofs.DefinedNames.{names_listed}, proofs.WholeWalks.{defined_all}}
use Rattle.moo_disclosure.proofs.meant.add_names.Goals as goal

-- there is no room for more
pub returns-then-len-eq-MOST_LOOKED_AT : goal.returns-then-len-eq-MOST_LOOKED_AT
returns-then-len-eq-MOST_LOOKED_AT g c =
    let m = (g.R.Rows.held c.args.rows.now).maps in
    let names = c.loop-id.names.items in
    let left = map (λ e. e.1.name) (defined_left c.loop-id._id-iterator.definer c.loop-id._id-iterator.last (g.R.Rows.held c.loop-id._id-iterator.rows.now).maps) in
    let full : length names ≡ 200 = search rules in
    let all = defined_all m c.requires.good c.args.x in
    sym (ap (λ n. take n (names ++ left)) (sym full) ∙ take-append_seam names left)
    ∙ c.loop-id.invariant.begins
    ∙ ap (λ l. take 200 (c.args.names.now.items ++ l)) (ap (map (λ e. e.1.name)) all ∙ names_listed m c.requires.good.sound c.args.x)

-- none is left
pub returns : goal.returns
returns g c =
    let m = (g.R.Rows.held c.args.rows.now).maps in
    let names = c.loop-id.names.items in
    let left = map (λ e. e.1.name) (defined_left c.loop-id._id-iterator.definer c.loop-id._id-iterator.last (g.R.Rows.held c.loop-id._id-iterator.rows.now).maps) in
    let none : left ≡ [] = search rules in
    let all = defined_all m c.requires.good c.args.x in
    sym (ap (λ l. take 200 (names ++ l)) none ∙ ap (take 200) (append-nil names) ∙ take_all 200 names c.loop-id.invariant.room)
    ∙ c.loop-id.invariant.begins
    ∙ ap (λ l. take 200 (c.args.names.now.items ++ l)) (ap (map (λ e. e.1.name)) all ∙ names_listed m c.requires.good.sound c.args.x)
