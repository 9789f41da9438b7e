use Rattle.std.proofs.Common.{◌≡◌, ◌++◌, take}
use Rattle.data_channel.specs.Replies.{encoded}
use Rattle.data_channel.proofs.location.push_name.Given as goal

abbrev pub invariant-loop-byte : goal.invariant-loop-byte
invariant-loop-byte l = l.path.items ≡ l.fn.path.items ++ encoded (take l.byte-index l.name)
