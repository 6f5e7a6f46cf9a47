-- What an object reads, by the rows.
use Rattle.moo_props.{proofs.Words.{arith, ◌≡◌, true, Some, sym, ap, ◌∙◌, is_some, get, same_Some, ObjNo, Value, ObjRow, PropId, PropRow, SlotRow, Clear, Set, Maps, is_among, same_object-Decides, World, IsWellFormed, chain, slot_of, read_of, LookUps, IsSound, look_ups, world_of, slot_seen, is_object_seen, chain_of_row, object_seen, name_of, some_of}, proofs.Shared.{object_of_chain, slot_here, slot_on_heir}, proofs.Owing.{definer_in}}
use Rattle.moo_world.proofs.Shown.Reading.{read_step}

module _ (t : Maps) (sound : IsSound t) (wf : IsWellFormed (world_of t)) (x : ObjNo) (id : PropId) (k : SlotRow) (held : get t.slots (x, id) ≡ Some k) where
  abbrev m : LookUps
  m = look_ups t

  abbrev w : World
  w = world_of t

  rows_there : (is_some (m.object x) ≡ true) × (is_some (m.prop id.0) ≡ true)
  rows_there = sound.slots x id.0 (ap is_some held)

  pub prop : (p : PropRow) × (m.prop id.0 ≡ Some p)
  prop = some_of (m.prop id.0) rows_there.1

  pub slot_read : slot_of w x (name_of t id) ≡ Some (slot_seen prop.0.definer k)
  slot_read = slot_here t sound x id k held prop.0 prop.1

  pub set_read : (v : Value) → k.state ≡ Set v → read_of w x (name_of t id) ≡ Some v
  set_read v e = grind (arith, read_step, prop, slot_read)

  module _ (clear : k.state ≡ Clear) (r : ObjRow) (there : m.object x ≡ Some r) where
    pub clear_read : read_of w x (name_of t id) ≡ read_of w r.parent (name_of t id)
    clear_read =
        let s = read_step w wf.tree (name_of t id) x (slot_seen prop.0.definer k) slot_read in
        let same = same_Some s.0 _ (sym s.1 ∙ object_seen m x r there) in
        s.2 ∙ ap (λ z. elim z [ Clear ↦ read_of w s.0.row.parent (name_of t id) | Set u ↦ Some u ]) clear ∙ ap (λ z. read_of w z.row.parent (name_of t id)) same

    definer_above : is_among prop.0.definer (chain w r.parent) ≡ true
    definer_above = grind (arith, chain_of_row m wf.tree x r (sym there), definer_in w wf x (is_object_seen m x ∙ rows_there.0) (name_of t id) (slot_seen prop.0.definer k) slot_read, wf.set x (name_of t id) (slot_seen prop.0.definer k) slot_read, (same_object-Decides prop.0.definer x).0)

    -- the parent has the property too
    pub parent_has : is_some (get t.slots (r.parent, id)) ≡ true
    parent_has = slot_on_heir t sound wf r.parent (object_of_chain w prop.0.definer r.parent definer_above) id.0 prop.0 prop.1 definer_above
