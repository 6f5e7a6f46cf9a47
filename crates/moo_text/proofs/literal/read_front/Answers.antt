use Rattle.moo_text.{proofs.Shared.{ℕ, List, Some, sym, ap, ◌∙◌, take_rest}, proofs.Reading.{front_found, no_front}}
use Rattle.moo_text.proofs.literal.read_front.Goals as goal
use Rattle.moo_world.proofs.Form.Ranges.{fits_of}

pub returns-in-Ok-clause-ok : goal.returns-in-Ok-clause-ok
returns-in-Ok-clause-ok c =
    front_found c.args.bytes.now c.in-Ok.value c.in-Ok.count c.in-Ok.ensures.found ∙ ap (λ (t : List ℕ). Some (c.in-Ok.value, t)) (sym (take_rest c.args.bytes.now c.in-Ok.count))

pub returns-in-Ok-clause-fits : goal.returns-in-Ok-clause-fits
returns-in-Ok-clause-fits c = fits_of c.in-Ok.value c.in-Ok.ensures.found.fits

pub returns-in_default : goal.returns-in_default
returns-in_default c =
    let fault = c.in-Err.ensures.fault c.in_default.not-OutOfMemory in
    record { ok = tt; fits = tt; err = λ _. no_front c.args.bytes.now fault.none; says = fault }
