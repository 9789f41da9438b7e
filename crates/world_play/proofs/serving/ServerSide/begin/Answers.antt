use Rattle.std.proofs.Common.{[]}
use Rattle.dots_host.specs.Media.{byte_of}
use Rattle.world_play.proofs.Blank.{zeros_seen, nothing_held}
use Rattle.world_play.proofs.Servers.{begun_in}
use Rattle.world_play.proofs.serving.ServerSide.begin.Goals as goal

pub returns-in-Ok-clause-is_in : goal.returns-in-Ok-clause-is_in
returns-in-Ok-clause-is_in c =
    let begun = c.in-Ok.ensures.begun in
    let held = begun.3 (byte_of []) (zeros_seen c.in_ok-host.host.disk c.in_ok-host.ensures.acts.0 c.in_ok-host.ensures.disk.1) in
    begun_in c.args.settings _ begun.0 begun.1 held.1 (nothing_held c.args.settings begun.0 held.0)
