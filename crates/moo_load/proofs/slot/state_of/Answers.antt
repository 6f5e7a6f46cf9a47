use Rattle.moo_load.proofs.Words.{ap, ◌∙◌, rules, Fits, fits, fits_of}
use Rattle.moo_load.proofs.slot.state_of.Goals as goal

pub returns-in_ok-value-in-Int-2-clause-fits : goal.returns-in_ok-value-in-Int-2-clause-fits
returns-in_ok-value-in-Int-2-clause-fits c =
    let own : Fits c.value-item.result = search rules in
    ap fits c.in_ok-value-in-Int-2.ensures ∙ fits_of c.value-item.result own
