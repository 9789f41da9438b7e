use Rattle.std.proofs.Common.{◌∙◌}
use Rattle.data_channel.proofs.Encoding.{byte_added}
use Rattle.data_channel.proofs.location.push_name.Goals as goal

pub loop-byte-preserved : goal.loop-byte-preserved
loop-byte-preserved c =
    c.in_ok-push_byte.ensures ∙ byte_added c.args.path.now.items c.args.name.now c.loop-byte.path.items c.loop-byte.byte-index c.loop-byte-test.true c.loop-byte.invariant
