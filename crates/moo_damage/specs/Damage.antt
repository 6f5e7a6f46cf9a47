-- What can be wrong with rows. Each kind is a test of one row, or what a chain of links leads to.
use Rattle.std.specs.Prelude.{◌≡◌, ◌⊎◌, Bool, true, false, not, ◌&&◌, ◌||◌, pos, nat_lt, nat_le, int_lt, List, Option, None, Some, is_some}
use Rattle.std.specs.{Prelude.{unwrap_or}, Option.{option_map}, List.{list_any}, FinMap.{get, entries}, Ordering.{is_lt}}
use Rattle.moo_value.specs.declared.value.ObjNo.{ObjNo}
use Rattle.moo_rows.specs.{declared.row.Head.{Head}, declared.row.ObjRow.{ObjRow}, declared.row.PetitionId.{PetitionId}}
use Rattle.moo_rows.specs.{declared.row.PetitionRow.{PetitionRow}, declared.row.PropId.{PropId}, declared.row.PropRow.{PropRow}}
use Rattle.moo_rows.specs.{declared.row.SlotRow.{SlotRow}, declared.row.VerbId.{VerbId}, declared.row.VerbRow.{VerbRow}}
use Rattle.moo_rows.specs.Maps.{Maps, object_cmp}
use Rattle.moo_world.specs.{Objects.{nothing, same_object, same_text, folded, is_among}, PropertyCalls.{is_clear}, Rows.{world_of}}
use Rattle.moo_world.specs.World.{World, Climbs, is_object, chain}
use Rattle.moo_props.specs.Names.{defines}
use Rattle.moo_damage.specs.{declared.trees.TreeLink.{TreeLink}, declared.trees.TreeLink.TheVariants.{Parent, Location}}

-- past-head: the number of an object was never given
abbrev pub is_object_past : Head → ObjNo → Bool
is_object_past head x = int_lt x.0 (pos 0) || int_lt head.top x.0

-- past-head: the number of a property was never given
abbrev pub is_prop_past : Head → PropId → Bool
is_prop_past head id = nat_le head.next_prop id.0

-- past-head: the number of a verb was never given
abbrev pub is_verb_past : Head → ObjNo × VerbId → Bool
is_verb_past head key = nat_le head.next_verb key.1.0

-- past-head: the number of a petition was never given
abbrev pub is_petition_past : Head → PetitionId → Bool
is_petition_past head id = nat_le head.next_petition id.0

-- what a row links its object to
abbrev pub link_of : TreeLink → ObjRow → ObjNo
link_of Parent row = row.parent
link_of Location row = row.location

-- no-parent, no-place: the link names neither an object nor nothing
abbrev pub is_lost : TreeLink → Maps → ObjRow → Bool
is_lost link m row = not (same_object nothing (link_of link row)) && not (is_object (world_of m) (link_of link row))

-- what an object links to
abbrev pub next_of : TreeLink → Maps → ObjNo → Option ObjNo
next_of link m x = option_map (link_of link) (get m.objects x)

-- the chain of links from x ends
abbrev pub HasEnd : TreeLink → Maps → ObjNo → Type 0
HasEnd link m x = (l : List ObjNo) × Climbs (next_of link m) x l

-- parent-loop, place-loop: the chain of links from x doesn't end
abbrev pub Loops : TreeLink → Maps → ObjNo → Type 0
Loops link m x = (l : List ObjNo) → ¬ (Climbs (next_of link m) x l)

-- no-definer: the definer of a property isn't an object
abbrev pub lacks_definer : Maps → PropRow → Bool
lacks_definer m p = not (is_object (world_of m) p.definer)

-- two properties have one name, on one object or on an object and its ancestor
abbrev pub share_name : World → PropRow → PropRow → Bool
share_name w p q =
    same_text (folded p.name) (folded q.name) && (is_among q.definer (chain w p.definer) || is_among p.definer (chain w q.definer))

-- double-name: a property of lesser number has the name already
abbrev pub is_double : Maps → PropId → PropRow → Bool
is_double m id p = list_any (λ e. nat_lt e.0.0 id.0 && share_name (world_of m) p e.1) (entries m.props)

-- the property is owed to the object: one of its chain defines it
abbrev pub is_owed : Maps → ObjNo × PropId → Bool
is_owed m key = unwrap_or (option_map (λ p. is_among p.definer (chain (world_of m) key.0)) (get m.props key.1)) false

-- strange-slot: the property of a slot isn't owed to its object
abbrev pub is_strange : Maps → ObjNo × PropId → Bool
is_strange m key = not (is_owed m key)

-- missing-slot: a property is owed to an object, which has no slot of it
abbrev pub is_missing : Maps → ObjNo × PropId → Bool
is_missing m key = is_owed m key && not (is_some (get m.slots key))

-- clear-definer: a slot is clear on the object that defines its property
abbrev pub is_clear_definer : Maps → ObjNo × PropId → SlotRow → Bool
is_clear_definer m key row = is_clear row.state && defines m key.0 key.1

-- strange-verb: a verb is under a number that isn't an object's
abbrev pub is_strange_verb : Maps → ObjNo × VerbId → Bool
is_strange_verb m key = not (is_object (world_of m) key.0)

-- each link names an object, or nothing, which isn't an object
pub record LinksHold (link : TreeLink) (m : Maps) : Type 0 where
  pub links : (x : ObjNo) (row : ObjRow) → get m.objects x ≡ Some row →
      (link_of link row ≡ nothing) ⊎ (is_some (get m.objects (link_of link row)) ≡ true)
  pub nothing : get m.objects nothing ≡ None

-- an object is linked to nothing, or to an object that has a lesser number or is linked to nothing
abbrev pub goes_down : TreeLink → Maps → ObjNo → ObjRow → Bool
goes_down link m x row =
    same_object nothing (link_of link row)
    || unwrap_or (option_map (λ above. is_lt (object_cmp (link_of link row) x) || same_object nothing (link_of link above)) (get m.objects (link_of link row))) false

-- each object is linked to nothing, or to an object that has a lesser number or is linked to nothing
abbrev pub LinksDescend : TreeLink → Maps → Type 0
LinksDescend link m = (x : ObjNo) (row : ObjRow) → get m.objects x ≡ Some row → goes_down link m x row ≡ true

-- ---- none of this is so

-- each number was given
pub record NumbersGiven (m : Maps) : Type 0 where
  pub objects : (x : ObjNo) (row : ObjRow) → get m.objects x ≡ Some row → is_object_past m.head x ≡ false
  pub props : (id : PropId) (p : PropRow) → get m.props id ≡ Some p → is_prop_past m.head id ≡ false
  pub verbs : (key : ObjNo × VerbId) (v : VerbRow) → get m.verbs key ≡ Some v → is_verb_past m.head key ≡ false
  pub petitions : (id : PetitionId) (row : PetitionRow) → get m.petitions id ≡ Some row → is_petition_past m.head id ≡ false

-- each object's chain of this link ends
abbrev pub LinksEnd : TreeLink → Maps → Type 0
LinksEnd link m = (x : ObjNo) (row : ObjRow) → get m.objects x ≡ Some row → HasEnd link m x

-- each definer is an object, and no name is double
pub record PropsRight (m : Maps) : Type 0 where
  pub definers : (id : PropId) (p : PropRow) → get m.props id ≡ Some p → lacks_definer m p ≡ false
  pub names : (id : PropId) (p : PropRow) → get m.props id ≡ Some p → is_double m id p ≡ false

-- the slots are just those that are owed, none is clear on its definer, and each verb is of an object
pub record SlotsRight (m : Maps) : Type 0 where
  pub owed : (key : ObjNo × PropId) (s : SlotRow) → get m.slots key ≡ Some s → is_strange m key ≡ false
  pub there : (x : ObjNo) (row : ObjRow) → get m.objects x ≡ Some row →
      (id : PropId) (p : PropRow) → get m.props id ≡ Some p → is_missing m (x, id) ≡ false
  pub set : (key : ObjNo × PropId) (s : SlotRow) → get m.slots key ≡ Some s → is_clear_definer m key s ≡ false
  pub verbs : (key : ObjNo × VerbId) (v : VerbRow) → get m.verbs key ≡ Some v → is_strange_verb m key ≡ false

-- no kind of damage is met: numbers, links, properties, slots and verbs are right
pub record IsClean (m : Maps) : Type 0 where
  pub numbers : NumbersGiven m
  pub chains : LinksEnd Parent m
  pub locations : LinksEnd Location m
  pub props : PropsRight m
  pub slots : SlotsRight m
