use Rattle.std.proofs.Common.{arith, ◌+◌, ◌-◌, ◌≡◌, length}
use Rattle.dots_host.proofs.ContentLemmas.{put_same}
use Rattle.dots_host.proofs.content.put.Goals as goal

pub returns : goal.returns
returns c =
    let size : c.args.at + length c.args.bytes.now - c.args.at ≡ length c.args.bytes.now = omega arith in
    put_same c.args.list.now c.args.bytes.now c.copy_from_slice.new.self c.args.at _ c.requires c.copy_from_slice.ensures.after size
