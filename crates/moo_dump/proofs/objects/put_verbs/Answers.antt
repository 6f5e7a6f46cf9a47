use Rattle.moo_dump.{proofs.Words.{arith, rules, ◌≡◌, ◌++◌, ℕ, List, ap, ◌∙◌, flat_map, Entry, walk, verb_line}, proofs.FlatMaps.{one_left}, proofs.ObjectLines.{verbs_walked}}
use Rattle.moo_dump.proofs.objects.put_verbs.Goals as goal
use Rattle.moo_rows.specs.Walk.{verbs_of_left}

pub returns : goal.returns
returns g c =
    let m = (g.R.Rows.held c.args.rows.now).maps in
    let all : c.loop-row.out.items ≡ c.args.out.now.items ++ flat_map (λ (e : Entry). verb_line c.args.x e.1) (walk m c.args.x) = search rules in
    all ∙ ap (λ text. c.args.out.now.items ++ text) (verbs_walked m c.requires c.args.x)

pub loop-row-preserved : goal.loop-row-preserved
loop-row-preserved g c =
    let lines : Entry → List ℕ = λ e. verb_line c.args.x e.1 in
    let left = verbs_of_left c.next.new.self.object c.next.new.self.last (g.R.Rows.held c.next.new.self.rows.now).maps in
    one_left c.put_verb_line.new.out.items c.loop-row.out.items (verb_line c.args.x c.in-Some.row.now) (flat_map lines left) _ _ c.in_ok-put_verb_line.ensures (ap (flat_map lines) c.in-Some.ensures.steps) c.loop-row.invariant
