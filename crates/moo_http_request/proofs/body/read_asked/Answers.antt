use Rattle.moo_http_request.{proofs.Words.{Bor, List, ℕ, Option, ap, sym, ◌∙◌}, specs.Alone.{alone}}
use Rattle.moo_http_request.specs.declared.asked.Asked.TheVariants as asks
use Rattle.moo_http_request.proofs.body.read_asked.Goals as goal
use Rattle.std.proofs.lemmas.Simd.{map-map}
use Rattle.moo_world.specs.declared.call.Batch.{Batch}

pub returns-in_ok-read_each-in-Each : goal.returns-in_ok-read_each-in-Each
returns-in_ok-read_each-in-Each c =
    let shape = c.args.shape.now in
    let batches = rw c.deref.ensures.value at c.in_ok-read_each-in-Each.ensures in
    rw c.in-Each.is (ap (λ (bs : List (Option Batch)). asks.Each (record { at = shape.at; batches = bs }))
    (batches ∙ sym (map-map (alone shape.programmer) (λ (text : Bor (List ℕ)). text.now) shape.calls.items)))
