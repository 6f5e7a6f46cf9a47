use Rattle.moo_tables.proofs.ReadLemmas.{hands_on, read_then}
use Rattle.moo_cells.{proofs.FillLemmas.{objects_keep, props_keep, slots_keep, verbs_keep}, proofs.TakenLemmas.{takes_all}}
use Rattle.moo_cells.proofs.showing_in_turn.show_tables.Goals as goal

pub returns-in_err-props-clause-reads : goal.returns-in_err-props-clause-reads
returns-in_err-props-clause-reads g c = hands_on c.from_residual-in_err-props.result c.from_residual-in_err-props.ensures.1 (read_then c.in_ok-objects.ensures.reads c.in_err-props.ensures.reads)

pub returns-in_err-slots-clause-reads : goal.returns-in_err-slots-clause-reads
returns-in_err-slots-clause-reads g c =
    let two = read_then c.in_ok-objects.ensures.reads c.in_ok-props.ensures.reads in
    hands_on c.from_residual-in_err-slots.result c.from_residual-in_err-slots.ensures.1 (read_then two c.in_err-slots.ensures.reads)

pub returns-in_err-verbs-clause-reads : goal.returns-in_err-verbs-clause-reads
returns-in_err-verbs-clause-reads g c =
    let three = read_then (read_then c.in_ok-objects.ensures.reads c.in_ok-props.ensures.reads) c.in_ok-slots.ensures.reads in
    hands_on c.from_residual-in_err-verbs.result c.from_residual-in_err-verbs.ensures.1 (read_then three c.in_err-verbs.ensures.reads)

pub returns-clause-shown : goal.returns-clause-shown
returns-clause-shown g c all =
    let v = c.args.version in
    let one = c.in_ok-objects.ensures.shown (objects_keep v) c.if-not-objects.false in
    let two = c.in_ok-props.ensures.shown (props_keep v) c.if-not-props.false in
    let three = c.in_ok-slots.ensures.shown (slots_keep v) c.if-not-slots.false in
    takes_all one two three (c.in_ok-verbs.ensures.shown (verbs_keep v) all) c.in_ok-objects.ensures.reads.read c.in_ok-props.ensures.reads.read c.in_ok-slots.ensures.reads.read c.in_ok-verbs.ensures.reads.read
