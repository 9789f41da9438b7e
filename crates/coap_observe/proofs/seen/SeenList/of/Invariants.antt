-- the list as far as the place at hand; after the first look it is known that it isn't longer than 64
use Rattle.std.proofs.Common.{◌≡◌, ◌<◌, ◌≤◌, length, take}
use Rattle.coap_observe.specs.Seen.{list_for}
use Rattle.coap_observe.proofs.seen.SeenList.of.Given as goal

abbrev pub invariant-loop-place : goal.invariant-loop-place
invariant-loop-place g l = record {
  front : l.items.items ≡ take l.place (list_for (g.V.Views.lists l.views) l.observer);
  within : l.place ≤ length (list_for (g.V.Views.lists l.views) l.observer);
  few : 0 < l.place → length (list_for (g.V.Views.lists l.views) l.observer) ≤ 64;
}
