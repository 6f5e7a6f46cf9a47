-- What the answers to a text are: where nothing is refused, if it stops, and if it is rehearsed.
use Rattle.moo_store.{proofs.Words.{◌≡◌, true, false, List, [], ◌∷◌, refl, sym, ap, ◌∙◌, Batch, Verdict, judge, after, Next, Answer, reply_of, answer_of, state_behind, Turns, is_plain, replies, answers_asked, batches_of, ◌++◌, arith, subst, State, says_accepted, AreAccepted, EndAtFirst, up_to_first}, specs.Moves.{VerdictLeads, RunsAt, AsksAt, state_at}, specs.Moment.{Moment, state_of_moment}, specs.Place.{Place}, specs.Rehearsed.{RehearsesAt}, proofs.Texts.{turns-follow}}
use Rattle.std.specs.List.{AllByRecursion}
use Rattle.moo_text.{specs.declared.next.Next.TheVariants.{Batch as Whole, End}}
use Rattle.moo_text.specs.declared.reply.Answer.TheVariants as answer

-- ---- where nothing is refused

abbrev ArePlain : List Answer → Type 0
ArePlain answers = AllByRecursion (λ a. is_plain a ≡ true) answers

not_plain : {X : Type 0} (a b : Answer) → a ≡ b → is_plain b ≡ false → is_plain a ≡ true → X
not_plain a b is none plain = absurd (grind arith)

-- the state behind a verdict
verdict_state : (m : Moment) (batch : Batch) (v : Verdict) (to : Place) → judge (state_of_moment m) batch ≡ v → VerdictLeads m batch v to → state_at to ≡ state_behind (state_of_moment m) batch
verdict_state m batch v to is it = grind arith

plain_one : (from to : Place) (batch : Batch) (a : Answer) → RunsAt from batch a to → is_plain a ≡ true → (a ≡ answer.Replied (reply_of (judge (state_at from) batch))) × (state_at to ≡ state_behind (state_at from) batch)
plain_one from to batch a it plain = grind (arith, not_plain, verdict_state)

pub plain_run : (from to : Place) (items : List Next) (answers : List Answer) → Turns RunsAt from items answers to → ArePlain answers
    → (answers ≡ replies (state_at from) items) × (state_at to ≡ after (state_at from) (batches_of items))
plain_run from to [] [] it all = (refl, ap state_at it)
plain_run from to (Whole batch ∷ items) (a ∷ answers) it all =
    let one = plain_one from it.0 batch a it.1 all.0 in
    let others = plain_run it.0 to items answers it.2 all.1 in
    (ap (λ x. x ∷ answers) one.0 ∙ ap (λ rest. answer.Replied (reply_of (judge (state_at from) batch)) ∷ rest) (others.0 ∙ ap (λ t. replies t items) one.1), others.1 ∙ ap (λ t. after t (batches_of items)) one.1)
plain_run from to (End ∷ items) (a ∷ answers) it all = absurd it.1
plain_run from to (item ∷ items) (a ∷ answers) it all =
    let others = plain_run it.0 to items answers it.2 all.1 in
    (ap (λ rest. a ∷ rest) (others.0 ∙ ap (λ t. replies (state_at t) items) it.1.1) ∙ ap (λ x. x ∷ replies (state_at from) items) it.1.0, others.1 ∙ ap (λ t. after (state_at t) (batches_of items)) it.1.1)
plain_run from to items answers it all = absurd it

-- ---- questions

-- asked, a World stands as it did
asks_stays : (from to : Place) (batch : Batch) (a : Answer) → AsksAt from batch a to → to ≡ from
asks_stays from to batch a it = grind arith

plain_question : (from to : Place) (batch : Batch) (a : Answer) → AsksAt from batch a to → is_plain a ≡ true → a ≡ answer.Replied (answer_of (state_at from) (judge (state_at from) batch))
plain_question from to batch a it plain = grind arith

pub plain_asked : (from to : Place) (items : List Next) (answers : List Answer) → Turns AsksAt from items answers to → ArePlain answers → answers ≡ answers_asked (state_at from) items
plain_asked from to [] [] it all = refl
plain_asked from to (Whole batch ∷ items) (a ∷ answers) it all =
    ap (λ x. x ∷ answers) (plain_question from it.0 batch a it.1 all.0)
    ∙ ap (λ rest. answer.Replied (answer_of (state_at from) (judge (state_at from) batch)) ∷ rest) (plain_asked it.0 to items answers it.2 all.1 ∙ ap (λ t. answers_asked (state_at t) items) (asks_stays from it.0 batch a it.1))
plain_asked from to (End ∷ items) (a ∷ answers) it all = absurd it.1
plain_asked from to (item ∷ items) (a ∷ answers) it all =
    ap (λ rest. a ∷ rest) (plain_asked it.0 to items answers it.2 all.1 ∙ ap (λ t. answers_asked (state_at t) items) it.1.1) ∙ ap (λ x. x ∷ answers_asked (state_at from) items) it.1.0
plain_asked from to items answers it all = absurd it

-- ---- up to the first answer that isn't `accepted`

up_to_last : (before : List Answer) (last : Answer) (rest : List Answer) → AreAccepted before → says_accepted last ≡ false → up_to_first ((before ++ last ∷ []) ++ rest) ≡ before ++ last ∷ []
up_to_last [] last rest all refused = rw refused refl
up_to_last (a ∷ before) last rest all refused = rw all.0 (ap (λ t. a ∷ t) (up_to_last before last rest all.1 refused))

up_to_end : (answers : List Answer) → AreAccepted answers → up_to_first answers ≡ answers
up_to_end [] all = refl
up_to_end (a ∷ answers) all = rw all.0 (ap (λ t. a ∷ t) (up_to_end answers all.1))

-- an `accepted` answer is plain
plain_if : (a : Answer) → says_accepted a ≡ true → is_plain a ≡ true
plain_if a e = grind arith

are_plain : (answers : List Answer) → AreAccepted answers → ArePlain answers
are_plain [] all = tt
are_plain (a ∷ answers) all = (plain_if a all.0, are_plain answers all.1)

-- ---- the replies to the first items

replies_on : (s : State) (done left : List Next) → (rest : List Answer) × (replies s (done ++ left) ≡ replies s done ++ rest)
replies_on s [] left = (replies s left, refl)
replies_on s (Whole batch ∷ done) left =
    let on = replies_on (state_behind s batch) done left in
    (on.0, ap (λ t. answer.Replied (reply_of (judge s batch)) ∷ t) on.1)
replies_on s (item ∷ done) left =
    let on = replies_on s done left in
    (on.0, let same = on.1 in cc)

pub early_front : (from to : Place) (done left : List Next) (answers : List Answer) → Turns RunsAt from done answers to → ArePlain answers → EndAtFirst answers → answers ≡ up_to_first (replies (state_at from) (done ++ left))
early_front from to done left answers turns plain first =
    let judged = (plain_run from to done answers turns plain).0 in
    let on = replies_on (state_at from) done left in
    let here : up_to_first (answers ++ on.0) ≡ answers = subst (λ t. up_to_first (t ++ on.0) ≡ t) (sym first.are) (up_to_last first.before first.last on.0 first.firsts first.refused) in
    sym (ap up_to_first (on.1 ∙ ap (λ t. t ++ on.0) (sym judged)) ∙ here)

pub whole_front : (from to : Place) (items : List Next) (answers : List Answer) → Turns RunsAt from items answers to → AreAccepted answers → answers ≡ up_to_first (replies (state_at from) items)
whole_front from to items answers turns all = sym (up_to_end answers all) ∙ ap up_to_first (plain_run from to items answers turns (are_plain answers all)).0

-- ---- a rehearsal

-- it runs
pub rehearsed_run : (from to : Place) (items : List Next) (answers : List Answer) → Turns RehearsesAt from items answers to → Turns RunsAt from items answers to
rehearsed_run from to items answers turns =
    let run = turns-follow RehearsesAt RunsAt (λ a b. a ≡ b) (λ was next place batch a same one. (next, refl, subst (λ x. RunsAt x batch a next) same one.0)) from to from items answers refl turns in
    subst (λ end. Turns RunsAt from items answers end) (sym run.1) run.2

pub told_run : (here told from to : Place) (items : List Next) (rehearsed answers : List Answer) → state_at here ≡ state_at from → Turns RehearsesAt here items rehearsed told → Turns RunsAt from items answers to → ArePlain rehearsed → ArePlain answers → rehearsed ≡ answers
told_run here told from to items rehearsed answers same turns run plain also =
    (plain_run here told items rehearsed (rehearsed_run here told items rehearsed turns) plain).0 ∙ ap (λ s. replies s items) same ∙ sym (plain_run from to items answers run also).0
