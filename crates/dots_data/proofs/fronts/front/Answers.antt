use Rattle.std.proofs.Common.{subst}
use Rattle.http_cut.specs.Requests.{IsCut, refuses}
use Rattle.dots_data.proofs.fronts.front.Goals as goal

pub returns-in-Refused-clause-stands : goal.returns-in-Refused-clause-stands
returns-in-Refused-clause-stands c = λ line entries there represents. subst (λ held. IsCut held (refuses c.in-Refused.fault)) (c.stream.ensures line there) c.in-Refused.ensures.cut
