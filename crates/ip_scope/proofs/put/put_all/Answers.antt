use Rattle.std.proofs.Common.{arith}
use Rattle.ip_scope.proofs.Putting.{Puts-put_mid}
use Rattle.ip_scope.proofs.put.put_all.Goals as goal

pub returns : goal.returns
returns c = Puts-put_mid c.args.into.now c.args.at _ _ c.args.bytes.now (omega arith) c.copy_from_slice.ensures.after (omega arith)
