-- what is left is to be the same
use Rattle.std.proofs.Common.{◌≡◌, drop}
use Rattle.coap_observe.specs.Seen.{list_for, same_seen}
use Rattle.coap_observe.proofs.seen.is_seen.Given as goal

abbrev pub invariant-loop-place : goal.invariant-loop-place
invariant-loop-place g l =
    same_seen (drop l.place l.items) (drop l.place (list_for (g.V.Views.lists l.views) l.observer))
    ≡ same_seen l.items (list_for (g.V.Views.lists l.views) l.observer)
