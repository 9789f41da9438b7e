-- the clients before the one at hand have their routes
use Rattle.std.proofs.Common.{◌≡◌, take}
use Rattle.std.specs.List.{flat_map}
use Rattle.dots_gateway.specs.Routes.{route_of}
use Rattle.dots_gateway.proofs.routes.routes_of.Given as goal

abbrev pub invariant-loop-row : goal.invariant-loop-row
invariant-loop-row l = l.routes.items ≡ flat_map (route_of l.settings) (take l.row-index l.row-items)
