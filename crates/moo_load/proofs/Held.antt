-- Values within the limits, and the calls of petitions.
use Rattle.moo_load.proofs.Words.{◌≡◌, true, ◌&&◌, nat_le, list_all, and_parts, a_list, Fits, nesting, spread, Values, all_within_limits, is_named, are_few, are_shallow, fits_of, and_from}
use Rattle.moo_value.specs.declared.value.TheConstants.{MAX_NESTING}

-- a value within the limits is calls that a petition may hold, if they are named, few and shallow
pub calls_held : (calls : Values) → Fits (a_list calls) → (list_all is_named (spread calls) && (are_few calls && are_shallow calls)) ≡ true
    → (list_all is_named (spread calls) && (are_few calls && (are_shallow calls && all_within_limits calls))) ≡ true
calls_held calls fits held =
    let one = and_parts (list_all is_named (spread calls)) (are_few calls && are_shallow calls) held in
    let two = and_parts (are_few calls) (are_shallow calls) one.1 in
    let limits = and_parts (nat_le (nesting (a_list calls)) MAX_NESTING) (all_within_limits calls) (fits_of (a_list calls) fits) in
    and_from (list_all is_named (spread calls)) (are_few calls && (are_shallow calls && all_within_limits calls)) one.0
    (and_from (are_few calls) (are_shallow calls && all_within_limits calls) two.0 (and_from (are_shallow calls) (all_within_limits calls) two.1 limits.1))
