-- Rows that show a well formed world are good if they are sound.
use Rattle.moo_props.proofs.Words.{arith, ◌≡◌, ap, as_high, Maps, AreSound, IsGood, IsWellFormed, LookUps, World, beside_world, look_ups, petitions_stay, world_of}
use Rattle.moo_rows.specs.declared.row.Head.{Head}
use Rattle.moo_world.specs.Numbers.{KeepsNumbers, KeepsProps, KeepsVerbs}

pub good_by : (old new : Maps) → IsGood old → (rows : LookUps) → look_ups new ≡ rows → AreSound rows → (world : World) → world_of new ≡ world → IsWellFormed world → beside_world new ≡ beside_world old → IsGood new
good_by old new good rows shown sound world seen formed beside = grind (arith, petitions_stay)

-- numbers are kept where those of properties and of verbs are, and the head stays
pub numbers_by : (old new : Maps) → KeepsProps old.head.next_prop old.props new.props → KeepsVerbs old.head.next_verb old.verbs new.verbs → new.head ≡ old.head → KeepsNumbers old new
numbers_by old new props verbs head =
    record { props = props; verbs = verbs; next_prop = as_high _ _ (ap (λ (h : Head). h.next_prop) head); next_verb = as_high _ _ (ap (λ (h : Head). h.next_verb) head) }
