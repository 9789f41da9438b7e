use Rattle.std.proofs.Common.{arith, ◌≤◌, length}
use Rattle.dots_host.proofs.ContentLemmas.{grown_by_zeros}
use Rattle.dots_host.proofs.content.grow.Goals as goal

pub returns-clause-ok : goal.returns-clause-ok
returns-clause-ok c =
    let longer : length c.args.bytes.now.items ≤ c.args.len = omega arith in
    grown_by_zeros c.args.bytes.now.items c.resize.new.self.items c.args.len _ longer c.in_ok-resize.ensures.items
