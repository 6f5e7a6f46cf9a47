-- Lemmas of this crate that several of its proofs share.
pub use Rattle.moo_props.proofs.Cases.{cond_same, left_some, left_value, no_value, none_of, passing, put_some, some_map}
pub use Rattle.moo_props.{proofs.Folds.{all_change, same_base, same_maps}, proofs.Numbers.{changed, same_below}}
pub use Rattle.moo_props.{proofs.Kept.{good_by, numbers_by}, proofs.Walked.{Entry, seen_at, slot_here, walk, walk_held, walk_meets}}
pub use Rattle.moo_props.{proofs.KeptSlots.{kept_slots, same_by_objects}, proofs.Gains.{object_of_chain, slot_on_heir}}
pub use Rattle.moo_props.{proofs.Owing.{has_owed, own_under}, proofs.Folding.{has_id, is_id, is_id-Decides, key_parts}}
pub use Rattle.moo_props.{proofs.Definers.{new_is, no_clash}, proofs.Moved.{keeps-fresh, under_is}}
pub use Rattle.moo_tree.proofs.Searching.{own_among}
