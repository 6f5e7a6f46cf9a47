use Rattle.moo_verbs.{proofs.Words.{sym, ap, ◌∙◌, prep_text}, proofs.TableLaw.{prep_reads}}
use Rattle.moo_verbs.proofs.prep.print_prep.Goals as goal

pub returns-in-None-clause-read_again : goal.returns-in-None-clause-read_again
returns-in-None-clause-read_again c = prep_reads _ c.args.prep (sym (ap prep_text c.in-None.is))

pub returns-in-Any-clause-read_again : goal.returns-in-Any-clause-read_again
returns-in-Any-clause-read_again c = prep_reads _ c.args.prep (sym (ap prep_text c.in-Any.is))

pub returns-in-Set-clause-read_again : goal.returns-in-Set-clause-read_again
returns-in-Set-clause-read_again c = prep_reads _ c.args.prep (c.set_text.ensures ∙ sym (ap prep_text c.in-Set.is))
