use Rattle.moo_memory.{proofs.Words.{◌++◌, [], ◌∷◌, true, sym, ap, ◌∙◌, refl, append_assoc, append-nil}, proofs.Tied.{tied_to, tied-has, tied-past, tied_partners}}
use Rattle.moo_memory.proofs.listing.list_tied.Goals as goal

pub loop-pair-init : goal.loop-pair-init
loop-pair-init c = refl

pub loop-pair-preserved : goal.loop-pair-preserved
loop-pair-preserved c =
    let left = tied_to c.args.x (λ _. true) in
    let key = c.in-Some.pair.now.1 in
    let rest = c.next.new.self in
    ap (λ l. l ++ left rest) c.in_ok-push.ensures.items
    ∙ append_assoc c.loop-pair.list.items (key ∷ []) (left rest)
    ∙ ap (λ l. c.loop-pair.list.items ++ l) (sym (ap left c.in-Some.ensures.steps ∙ tied-has c.args.x (λ _. true) (c.in-Some.pair.now, c.in-Some.field-0-1.now) rest c.if-ne.ensures refl))
    ∙ c.loop-pair.invariant

-- none is left

pub returns-in-None : goal.returns-in-None
returns-in-None c maps link exact =
    let left = tied_to c.args.x (λ _. true) in
    let all = tied_partners c.args.x maps link c.args.pairs.now c.args.after c.range-pair-items.ensures.ordered exact in
    sym (append-nil c.loop-pair.list.items) ∙ ap (λ es. c.loop-pair.list.items ++ left es) (sym c.in-None.ensures.steps.0) ∙ c.loop-pair.invariant
    ∙ ap (λ l. c.args.list.now.items ++ l) (ap left (c.into_iter-pair-iterator.ensures.into_iter_gives ∙ c.range-pair-items.ensures.between tt) ∙ all)

pub returns-then-ne : goal.returns-then-ne
returns-then-ne c maps link exact =
    let left = tied_to c.args.x (λ _. true) in
    let all = tied_partners c.args.x maps link c.args.pairs.now c.args.after c.range-pair-items.ensures.ordered exact in
    sym (append-nil c.loop-pair.list.items)
    ∙ ap (λ l. c.loop-pair.list.items ++ l) (sym (ap left c.in-Some.ensures.steps ∙ tied-past c.args.x (λ _. true) (c.in-Some.pair.now, c.in-Some.field-0-1.now) c.next.new.self c.if-ne.ensures))
    ∙ c.loop-pair.invariant
    ∙ ap (λ l. c.args.list.now.items ++ l) (ap left (c.into_iter-pair-iterator.ensures.into_iter_gives ∙ c.range-pair-items.ensures.between tt) ∙ all)
