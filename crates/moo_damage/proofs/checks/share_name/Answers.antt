use Rattle.moo_damage.{proofs.Words.{arith, ◌≡◌, true, false, ◌||◌, ◌&&◌, sym, ap, ◌∙◌, same_text, folded, is_among, world_of, chain}, proofs.Naming.{same_named}}
use Rattle.moo_damage.proofs.checks.share_name.Goals as goal

pub returns-then-not-same_name : goal.returns-then-not-same_name
returns-then-not-same_name g c =
    let w = world_of (g.R.Rows.held c.args.rows.now).maps in
    let p = c.args.one.now in
    let q = c.args.other.now in
    let n : same_text (folded p.name) (folded q.name) ≡ false = sym (same_named c.same_name.result p.name q.name c.same_name.ensures) ∙ c.if-not-same_name.true in
    sym (ap (λ b. b && (is_among q.definer (chain w p.definer) || is_among p.definer (chain w q.definer))) n)

pub returns-then-is_under : goal.returns-then-is_under
returns-then-is_under g c =
    let w = world_of (g.R.Rows.held c.args.rows.now).maps in
    let p = c.args.one.now in
    let q = c.args.other.now in
    let n : same_text (folded p.name) (folded q.name) ≡ true = sym (same_named c.same_name.result p.name q.name c.same_name.ensures) ∙ c.if-not-same_name.false in
    let u : is_among q.definer (chain w p.definer) ≡ true = sym c.is_under.ensures ∙ c.if-is_under.true in
    sym (λ i. n i && (u i || is_among p.definer (chain w q.definer)))

pub returns : goal.returns
returns g c =
    let w = world_of (g.R.Rows.held c.args.rows.now).maps in
    let p = c.args.one.now in
    let q = c.args.other.now in
    let n : same_text (folded p.name) (folded q.name) ≡ true = sym (same_named c.same_name.result p.name q.name c.same_name.ensures) ∙ c.if-not-same_name.false in
    let u : is_among q.definer (chain w p.definer) ≡ false = sym c.is_under.ensures ∙ c.if-is_under.false in
    c.is_under-2.ensures ∙ sym (λ i. n i && (u i || is_among p.definer (chain w q.definer)))
