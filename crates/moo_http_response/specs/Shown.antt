-- What a response of the code shows.
use Rattle.std.specs.Prelude.{◌≡◌, option_map}
use Rattle.moo_http_response.specs.Responses as spec
use Rattle.moo_http_response.specs.declared.response.Response.{Response}

-- a response of the code has the status, the method to name, the kind and the body of this one
pub record Shows (r : Response) (response : spec.Response) : Type 0 where
  pub status : r.status ≡ response.status
  pub allow : option_map (λ method. method.now) r.allow ≡ response.allow
  pub kind : r.kind.now ≡ response.kind
  pub body : r.body.items ≡ response.body
