use Rattle.moo_tables.{proofs.Words.{sym, ap, ◌∙◌, has_petitions}, proofs.ReadLemmas.{rests_read, none_listed}}
use Rattle.moo_tables.proofs.reading.small_cells_of.Goals as goal

pub returns-then-not-has_petitions-clause-listed : goal.returns-then-not-has_petitions-clause-listed
returns-then-not-has_petitions-clause-listed g c clean tables was is =
    let none = none_listed _ tables was.holds (ap has_petitions is ∙ sym c.has_petitions.ensures ∙ c.if-not-has_petitions.true) in
    rw (c.new.ensures.items, c.new-then-not-has_petitions.ensures.items) (c.in_ok-head.ensures.listed clean tables was is, none.0, none.1)

pub cells_of-requires-2 : goal.cells_of-requires-2
cells_of-requires-2 g c = sym c.has_petitions.ensures ∙ c.if-not-has_petitions.false

pub cells_of-requires-3 : goal.cells_of-requires-3
cells_of-requires-3 g c = sym c.has_petitions.ensures ∙ c.if-not-has_petitions.false

pub returns-clause-listed : goal.returns-clause-listed
returns-clause-listed g c clean tables was is =
    let clean2 = c.in_ok-petition_head.ensures.reads.read.clean clean in
    let clean1 = c.in_ok-petition.ensures.reads.read.clean clean2 in
    let after1 = rests_read tables c.in_ok-head.ensures.reads.read clean1 is was in
    let after2 = rests_read tables c.in_ok-petition.ensures.reads.read clean2 is after1 in
    (c.in_ok-head.ensures.listed clean1 tables was is, c.in_ok-petition.ensures.listed clean2 tables after1 is, c.in_ok-petition_head.ensures.listed clean tables after2 is)
