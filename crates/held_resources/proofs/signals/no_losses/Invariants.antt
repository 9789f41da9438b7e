use Rattle.std.proofs.Common.{◌≡◌, map, take}
use Rattle.std.specs.List.{flat_map}
use Rattle.dots_history.specs.Calm.{loser_of}
use Rattle.held_resources.specs.Tables.{no_loss}
use Rattle.held_resources.proofs.signals.no_losses.Given as goal

abbrev pub invariant-loop-row : goal.invariant-loop-row
invariant-loop-row l = l.signals.items ≡ map no_loss (flat_map loser_of (take l.row-index l.peers))
