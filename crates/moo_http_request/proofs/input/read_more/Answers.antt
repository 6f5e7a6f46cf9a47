use Rattle.moo_http_request.{proofs.Words.{◌++◌, ap, take, ◌∙◌, take-append-le}, proofs.Giving.{front_size}}
use Rattle.moo_http_request.proofs.input.read_more.Goals as goal

pub returns-clause-grows : goal.returns-clause-grows
returns-clause-grows g c = record {
  given = take c.in-Ok.count c.receive.new.buf;
  known = c.in-Ok.ensures.bytes.0;
  grown = c.in_ok-extend_from_slice.ensures.items ∙ ap (λ l. c.args.bytes.now.items ++ l) (take-append-le c.in-Ok.count c.receive.new.buf _ c.in-Ok.ensures.bound.0);
}

pub slice_bounds-extend_from_slice-end : goal.slice_bounds-extend_from_slice-end
slice_bounds-extend_from_slice-end g c = front_size c.in-Ok.count c.receive.new.buf _ c.in-Ok.ensures.bound.0
