use Rattle.std.proofs.Common.{subst, rules}
use Rattle.http_cut.specs.Requests.{CutValue, IsCut}
use Rattle.http_cut.proofs.Streams.{cut_size, waits_room}
use Rattle.http_cut.proofs.stream.Stream.cut.Goals as goal

pub returns-clause-size : goal.returns-clause-size
returns-clause-size c = cut_size c.args.self.now c.cut_known.result (search rules)

pub returns-clause-room : goal.returns-clause-room
returns-clause-room c = λ e. waits_room c.args.self.now (subst (λ (o : CutValue). IsCut c.args.self.now o) e (search rules))
