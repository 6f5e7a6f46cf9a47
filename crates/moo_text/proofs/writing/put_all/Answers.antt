use Rattle.std.{proofs.Common.{◌≡◌, ◌-◌, List, ℕ, length, take, drop, arith, subst, sym, ap}, specs.Io.KnownBytes.{Appends}}
use Rattle.std.{proofs.KnownBytes.{Appends-trans}, proofs.Math.Seq.{take-add}, proofs.lemmas.List.{take_rest, length-drop}}
use Rattle.moo_text.proofs.writing.put_all.Goals as goal

pub loop-at-preserved : goal.loop-at-preserved
loop-at-preserved g c =
    let bytes = c.args.bytes.now in
    let at = c.loop-at.at in
    let a = g.W.Write.contents c.args.writer.now in
    let b = g.W.Write.contents c.loop-at.writer in
    let d = g.W.Write.contents c.write.new.self in
    let rest : take (length bytes - at) (drop at bytes) ≡ drop at bytes = take_rest bytes at in
    record {
      within = omega (arith, c.in-Ok.ensures.bound, ap length rest, length-drop at bytes);
      wrote = subst (Appends a d) (sym (take-add at c.in-Ok.count bytes))
          (Appends-trans a b d _ _ c.loop-at.invariant.wrote (subst (λ (t : List ℕ). Appends b d (take c.in-Ok.count t)) rest c.in-Ok.ensures.bytes));
    }
