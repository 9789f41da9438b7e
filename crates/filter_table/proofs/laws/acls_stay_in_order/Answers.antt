use Rattle.std.proofs.Common.{not, refl}
use Rattle.filter_table.specs.TableRows.{is_named, activated, place_of_acl, acl_at_place}
use Rattle.filter_table.proofs.Orders.{order_insert, order_filter, order_map, order_renumbered, activated_place}
use Rattle.filter_table.proofs.laws.acls_stay_in_order.Goals as goal

pub returns : goal.returns
returns c = record {
  set = λ list placed order. order_insert place_of_acl list placed order;
  dropped = λ domain cuid name placed order. order_filter place_of_acl (λ list. not (is_named domain cuid name list)) placed order;
  activated = λ domain cuid active placed order. order_map place_of_acl (activated domain cuid active) (activated_place domain cuid active) placed order;
  renumbered = λ placed. order_renumbered place_of_acl acl_at_place (λ n x. refl) placed;
}
