use Rattle.std.proofs.Common.{rules, ◌≡◌, List, [], ◌∷◌, ◌++◌, append_assoc, map, sym, ap, ◌∙◌}
use Rattle.moo_rows.specs.Walk.{verbs_of_left}
use Rattle.moo_verbs.{proofs.Entries.{Entry}, proofs.Found.{walk, walked_rows}}
use Rattle.moo_verbs.proofs.directory.list.Goals as goal

one_more : {A B : Type 0} (f : A → B) (found more : List B) (old left : List A) (all : List B) (x : A) → more ≡ found ++ f x ∷ [] → old ≡ x ∷ left → found ++ map f old ≡ all → more ++ map f left ≡ all
one_more f found more old left all x pushed is h =
    ap (λ xs. xs ++ map f left) pushed ∙ append_assoc found (f x ∷ []) (map f left) ∙ ap (λ xs. found ++ map f xs) (sym is) ∙ h

pub loop-row-preserved : goal.loop-row-preserved
loop-row-preserved g c =
    let it = c.loop-row.row-iterator in
    let next = c.next.new.self in
    let pushed : c.push.new.self.items ≡ c.loop-row.found.items ++ c.in-Some.row.now.names ∷ [] = search rules in
    one_more (λ (e : Entry). e.1.names) c.loop-row.found.items c.push.new.self.items (verbs_of_left it.object it.last (g.R.Rows.held it.rows.now).maps) (verbs_of_left next.object next.last (g.R.Rows.held next.rows.now).maps) _ _ pushed c.in-Some.ensures.steps c.loop-row.invariant

pub returns : goal.returns
returns g c =
    let m = (g.R.Rows.held c.args.rows.now).maps in
    let all : c.loop-row.found.items ≡ map (λ (e : Entry). e.1.names) (walk m c.args.x) = search rules in
    all ∙ walked_rows m c.requires c.args.x (λ v. v.names)
