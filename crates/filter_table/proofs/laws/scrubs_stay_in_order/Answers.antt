use Rattle.std.proofs.Common.{not, refl}
use Rattle.filter_table.specs.TableRows.{is_of, woken, place_of_scrub, scrub_at_place}
use Rattle.filter_table.proofs.Orders.{order_insert, order_filter, order_map, order_renumbered, woken_place}
use Rattle.filter_table.proofs.laws.scrubs_stay_in_order.Goals as goal

pub returns : goal.returns
returns c = record {
  installed = λ scrub placed order. order_insert place_of_scrub scrub placed order;
  removed = λ domain cuid mid placed order. order_filter place_of_scrub (λ scrub. not (is_of domain cuid mid scrub)) placed order;
  woken = λ domain cuid mid active placed order. order_map place_of_scrub (woken domain cuid mid active) (woken_place domain cuid mid active) placed order;
  renumbered = λ placed. order_renumbered place_of_scrub scrub_at_place (λ n x. refl) placed;
}
