-- What holds of moments and rows that batches lead to.
use Rattle.moo_world.{proofs.Lemmas.{◌≡◌, ℕ, ◌+◌, ◌≤◌, ◌&&◌, Bool, true, cond, List, [], ◌∷◌, ◌++◌, arith, refl, sym, subst, ◌∙◌, ap, State}, proofs.Batches.Judging.{taken_once}, specs.declared.call.Batch.{Batch}}
use Rattle.moo_world.specs.Judge.{Verdict, Accepted, judge, left_by, after, is_for, is_accepted, taken, state_of}
use Rattle.moo_world.specs.Between.{BatchLeads}
use Rattle.moo_world.specs.Rows.{IsGood}
use Rattle.moo_rows.specs.Maps.{Maps}
use Rattle.moo_store.{specs.Moment.{Moment, AllCells, KeepsCellsAt, state_of_moment, rows_alone, LeadsByEach}, specs.Place.{Place, Between, MayBeLeft, moment_of}}
use Rattle.std.proofs.Common.{inl}
use Rattle.std.proofs.lemmas.Bool.{true≢false}
use Rattle.std.specs.List.{filter}
use Rattle.std.specs.Prelude.{Option, Some, None, IsSome, length, if◌then◌else◌}
use Rattle.moo_http.specs.Leading.{LeadsTo}
use Rattle.moo_laws.specs.NobodyRises.{NoWizardActs, KeepsRights}
use Rattle.moo_laws.proofs.Ranks.{FormedAll, led_batch, rights_kept}

led_formed : (m end : Moment) (batches : List Batch) → IsGood m.rows → LeadsByEach m batches end → FormedAll (state_of_moment m) batches
led_formed m end [] good it = tt
led_formed m end (b ∷ bs) good (next, one, rest) = (good.formed, λ accepted. led_batch b m.rows next.rows good one.rows, subst (λ s. FormedAll s bs) one.state (led_formed next end bs one.good rest))

pub led_after : (m end : Moment) (batches : List Batch) → LeadsByEach m batches end → state_of_moment end ≡ after (state_of_moment m) batches
led_after m end [] it = ap state_of_moment it
led_after m end (b ∷ bs) (next, one, rest) = led_after next end bs rest ∙ ap (λ s. after s bs) one.state

pub moments_keep : (m end : Moment) (batches : List Batch) → IsGood m.rows → LeadsByEach m batches end → NoWizardActs (state_of_moment m) batches → KeepsRights (state_of_moment m) batches (state_of_moment end)
moments_keep m end batches good it none =
    subst (λ s. KeepsRights (state_of_moment m) batches s) (sym (led_after m end batches it)) (rights_kept (state_of_moment m) batches (led_formed m end batches good it) none)

-- ---- each of them is counted, and accepted

counted : (b : Batch) (old new : Maps) → BatchLeads b old new → (state_of new).seq ≡ (state_of old).seq + 1
counted b old new it = ap (λ (rows : Maps). rows.head.seq) it.2

pub counts : (m end : Moment) (batches : List Batch) → LeadsByEach m batches end → (state_of_moment end).seq ≡ (state_of_moment m).seq + length batches
counts m end [] it = let same = ap (λ (x : Moment). (state_of_moment x).seq) it in omega (arith, same)
counts m end (b ∷ bs) (next, one, rest) =
    let later = counts next end bs rest in
    let first = counted b m.rows next.rows one.rows in
    omega (arith, later, first)

led_accepted : (b : Batch) (old new : Maps) → BatchLeads b old new → state_of new ≡ left_by (state_of old) (judge (state_of old) b) → is_accepted (judge (state_of old) b) ≡ true
led_accepted b old new it state = by (judge (state_of old) b) state
  where
    by : (v : Verdict) → state_of new ≡ left_by (state_of old) v → is_accepted v ≡ true
    by (Accepted answers next) e = refl
    by v e = absurd (omega (arith, ap (λ (s : State). s.seq) e, counted b old new it))

-- one accepted batch more among those that are meant for a number
one_taken : (f a : Bool) (b : Batch) (found : List Batch) (n : ℕ) → a ≡ true → n ≡ length found → cond (f && a) 1 0 + n ≡ length (if f then b ∷ found else found)
one_taken f a b found n e h = grind arith

all_taken : (m end : Moment) (batches : List Batch) (number : ℕ) → LeadsByEach m batches end → taken number (state_of_moment m) batches ≡ length (filter (is_for number) batches)
all_taken m end [] number it = refl
all_taken m end (b ∷ bs) number (next, one, rest) =
    one_taken (is_for number b) (is_accepted (judge (state_of_moment m) b)) b (filter (is_for number) bs) _ (led_accepted b m.rows next.rows one.rows one.state)
    (subst (λ s. taken number s bs ≡ length (filter (is_for number) bs)) one.state (all_taken next end bs number rest))

pub once : (m end : Moment) (batches : List Batch) (number : ℕ) → LeadsByEach m batches end → length (filter (is_for number) batches) ≤ 1
once m end batches number it = subst (λ n. n ≤ 1) (all_taken m end batches number it) (taken_once number (state_of_moment m) batches)

-- ---- rows alone

-- of moments whose cells aren't looked at the same holds
pub led_alone : (m end : Moment) (batches : List Batch) → LeadsByEach m batches end → LeadsByEach (rows_alone m.rows) batches (rows_alone end.rows)
led_alone m end [] it = ap (λ (x : Moment). rows_alone x.rows) it
led_alone m end (b ∷ bs) (next, one, rest) = (rows_alone next.rows, record { good = one.good; rows = one.rows; state = one.state; kept = tt }, led_alone next end bs rest)

pub led_joins : (m mid end : Moment) (first second : List Batch) → LeadsByEach m first mid → LeadsByEach mid second end → LeadsByEach m (first ++ second) end
led_joins m mid end [] second it on = subst (λ (x : Moment). LeadsByEach x second end) it on
led_joins m mid end (b ∷ bs) second (next, one, rest) on = (next, one, led_joins next mid end bs second rest on)

-- ---- cells

still_some : (rows next : Maps) (old new : Option AllCells) → KeepsCellsAt rows next old new → IsSome old → IsSome new
still_some rows next (Some old) (Some new) kept some = refl
still_some rows next (Some old) None kept some = absurd kept
still_some rows next None new kept some = absurd (true≢false (sym some))

-- where the cells are known they stay so
known_after : (m end : Moment) (batches : List Batch) → LeadsByEach m batches end → IsSome m.cells → IsSome end.cells
known_after m end [] it some = subst (λ (x : Moment). IsSome x.cells) (sym it) some
known_after m end (b ∷ bs) (next, one, rest) some = known_after next end bs rest (still_some m.rows next.rows m.cells next.cells one.kept some)

may_stay : (place : Place) → MayBeLeft place (moment_of place)
may_stay (Between m next) = inl refl
may_stay place = refl

pub known_at : (m : Moment) (place : Place) → LeadsTo m place → IsSome m.cells → IsSome (moment_of place).cells
known_at m place leads some = let it = leads (moment_of place) (may_stay place) in known_after m (moment_of place) it.0 it.1 some
