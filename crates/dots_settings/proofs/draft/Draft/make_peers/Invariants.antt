use Rattle.std.proofs.Common.{◌≡◌, map, take}
use Rattle.dots_settings.specs.Admitting.{draft_value}
use Rattle.dots_settings.specs.Settings.{peer_row_of}
use Rattle.dots_settings.proofs.draft.Draft.make_peers.Given as goal

abbrev pub invariant-loop-peer : goal.invariant-loop-peer
invariant-loop-peer l = l.peers.items ≡ map (peer_row_of (draft_value l.self)) (take l.peer-index l.self.peers.items)
