use Rattle.moo_http.{proofs.Words.{Appends, length, subst}, proofs.Connections.{when_ok}}
use Rattle.std.proofs.{KnownBytes.{Appends-kept}, Math.Seq.{take-length}}
use Rattle.moo_http.proofs.service.write_flushed.Goals as goal

pub returns-then-is_err-2-clause-err : goal.returns-then-is_err-2-clause-err
returns-then-is_err-2-clause-err g c =
    let text = c.args.text.now in
    let before = g.W.Write.contents c.args.output.now in
    let put = subst (λ bytes. Appends before (g.W.Write.contents c.put_all.new.writer) bytes) c.as_bytes.ensures.value (when_ok c.put_all.result c.if-is_err.ensures.value c.put_all.ensures.ok) in
    (length text, rw (take-length text) (Appends-kept before (g.W.Write.contents c.put_all.new.writer) (g.W.Write.contents c.flush.new.self) text put c.flush.ensures.bytes))
