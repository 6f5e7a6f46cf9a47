use Rattle.moo_load.{proofs.Words.{◌+◌, List, ℕ, length, drop, sym, subst, ◌∙◌, arith, false≢true, drop-drop, from_err, Maps, NumberIsLeft, entry_taken}, proofs.Ahead.{Ahead, Nothing, nothing_needed, all_ahead, some_line, at_end, not_refused, one_taken}}
use Rattle.moo_load.proofs.reading.take_lines.Goals as goal

pub loop-line-init : goal.loop-line-init
loop-line-init c = record { within = c.requires.start; read = c.requires.read; ahead = λ es fit same. all_ahead es c.args.rows.now.maps (drop c.args.start c.args.text.now) fit (nothing_needed entry_taken es c.args.rows.now.maps) same }

pub returns-in_err-line-clause-err : goal.returns-in_err-line-clause-err
returns-in_err-line-clause-err c = from_err c.from_residual.result c.from_residual.ensures.1 (λ fault own some es fit numbers same. some_line (c.loop-line.invariant.ahead es fit same) (λ l r one is. c.in_err-line.ensures.found l r one is))

pub returns-then-is_end-clause-put : goal.returns-then-is_end-clause-put
returns-then-is_end-clause-put c es fit same =
    at_end (c.loop-line.invariant.ahead es fit same) c.in_ok-line.line.now (λ l r one is. c.in_ok-line.ensures.found l r one is) (c.is_end.ensures.0 c.if-is_end.true)

pub returns-in-Err-clause-err : goal.returns-in-Err-clause-err
returns-in-Err-clause-err c some es fit numbers same =
    not_refused (c.loop-line.invariant.ahead es fit same) c.in_ok-line.line.now (λ l r one is. c.in_ok-line.ensures.found l r one is)
    (λ end. false≢true (sym c.if-is_end.false ∙ c.is_end.ensures.1 end))
    (λ e fits sure left text. c.in-Err.ensures.err (c.within.ensures.line some) e fits left text) numbers

pub loop-line-preserved : goal.loop-line-preserved
loop-line-preserved c = record {
  within = omega (arith, c.in_ok-line.ensures.ok);
  read = c.in-Ok.ensures.read;
  ahead = λ es fit same.
      subst (λ (r : List ℕ). Ahead Maps entry_taken Nothing NumberIsLeft es c.args.rows.now.maps c.take_line.new.rows.maps r) (drop-drop (length c.in_ok-line.line.now + 1) c.loop-line.at c.args.text.now)
      (one_taken (c.loop-line.invariant.ahead es fit same) c.take_line.new.rows.maps c.in_ok-line.line.now (λ l r one is. c.in_ok-line.ensures.found l r one is)
      (λ end. false≢true (sym c.if-is_end.false ∙ c.is_end.ensures.1 end)) (λ e fits sure text. c.in-Ok.ensures.put e fits text));
}
