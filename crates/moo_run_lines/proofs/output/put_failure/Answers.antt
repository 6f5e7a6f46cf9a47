use Rattle.moo_run_lines.proofs.output.put_failure.Goals as goal

pub returns-in-Damaged : goal.returns-in-Damaged
returns-in-Damaged g c = rw c.in-Damaged.is c.put_damage.ensures

pub returns-in-NotADump : goal.returns-in-NotADump
returns-in-NotADump g c = rw c.in-NotADump.is c.put_not_a_dump.ensures
