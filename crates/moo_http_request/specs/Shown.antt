-- What the code's own types show.
use Rattle.std.specs.Prelude.{Option, Some, None, map}
use Rattle.moo_http_request.specs.Calls as calls
use Rattle.moo_http_request.specs.Shape as parts
use Rattle.moo_http_request.specs.{declared.body.CallsRead.{CallsRead}, declared.body.CallsRead.TheVariants.{Whole, Bad}}
use Rattle.moo_http_request.specs.{declared.shape.Shape.{Shape}, declared.shape.ShapeRead.{ShapeRead}}
use Rattle.moo_http_request.specs.declared.shape.ShapeRead.TheVariants as shape_read

-- the shape that the code's shape is
abbrev pub shape_shown : Shape → parts.Shape
shape_shown shape = record { programmer = shape.programmer; calls = map (λ text. text.now) shape.calls.items; at = shape.at }

-- the shape that was read; None if it was another one
abbrev pub shape_read_shown : ShapeRead → Option parts.Shape
shape_read_shown (shape_read.Whole shape) = Some (shape_shown shape)
shape_read_shown (shape_read.Bad fault) = None

-- the calls that were read, or the number of the first text that isn't one
abbrev pub calls_shown : CallsRead → calls.Calls
calls_shown (Whole read) = calls.Whole read
calls_shown (Bad n) = calls.Bad n
