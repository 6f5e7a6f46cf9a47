use Rattle.moo_cells.proofs.Words.{◌∙◌, sym, subst, IfOk, IfErr, column, ShowsRights}
use Rattle.moo_cells.proofs.cell.bits_at.Goals as goal
use Rattle.moo_rows.specs.declared.row.Bits.{Bits}

pub returns-then-has_lettered_bits-clause-ok : goal.returns-then-has_lettered_bits-clause-ok
returns-then-has_lettered_bits-clause-ok c =
    subst (λ b. IfOk c.lettered_bits_at.result (λ bits. ShowsRights b (column c.args.cells.now c.args.at) bits)) (sym c.if-has_lettered_bits.true ∙ c.has_lettered_bits.ensures) c.lettered_bits_at.ensures.ok

pub returns-then-has_lettered_bits-clause-err : goal.returns-then-has_lettered_bits-clause-err
returns-then-has_lettered_bits-clause-err c =
    subst (λ b. IfErr c.lettered_bits_at.result (λ _. (bits : Bits) → ¬ (ShowsRights b (column c.args.cells.now c.args.at) bits))) (sym c.if-has_lettered_bits.true ∙ c.has_lettered_bits.ensures) c.lettered_bits_at.ensures.err

pub returns-clause-ok : goal.returns-clause-ok
returns-clause-ok c =
    subst (λ b. IfOk c.numbered_bits_at.result (λ bits. ShowsRights b (column c.args.cells.now c.args.at) bits)) (sym c.if-has_lettered_bits.false ∙ c.has_lettered_bits.ensures) c.numbered_bits_at.ensures.ok

pub returns-clause-err : goal.returns-clause-err
returns-clause-err c =
    subst (λ b. IfErr c.numbered_bits_at.result (λ _. (bits : Bits) → ¬ (ShowsRights b (column c.args.cells.now c.args.at) bits))) (sym c.if-has_lettered_bits.false ∙ c.has_lettered_bits.ensures) c.numbered_bits_at.ensures.err
