use Rattle.coap_tcp.proofs.Streams.{refused_still, taken_still, refused_never}
use Rattle.coap_tcp.proofs.laws.decided_once.Goals as goal

pub returns-clause-frame : goal.returns-clause-frame
returns-clause-frame c bytes more f e = taken_still bytes more f e

pub returns-clause-fault : goal.returns-clause-fault
returns-clause-fault c bytes more fault e = refused_still bytes more fault e

pub returns-clause-never : goal.returns-clause-never
returns-clause-never c bytes more behind fault f e x = refused_never bytes more behind fault f e x
