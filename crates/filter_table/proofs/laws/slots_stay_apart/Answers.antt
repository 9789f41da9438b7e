use Rattle.std.proofs.Common.{not}
use Rattle.filter_table.specs.TableRows.{is_of, woken}
use Rattle.filter_table.proofs.Orders.{apart_installed, apart_filter, apart_map, apart_renumbered, woken_slot}
use Rattle.filter_table.proofs.laws.slots_stay_apart.Goals as goal

pub returns : goal.returns
returns c = record {
  installed = λ scrub placed none apart. apart_installed scrub placed _ none apart;
  removed = λ domain cuid mid placed apart. apart_filter (λ scrub. not (is_of domain cuid mid scrub)) placed apart;
  woken = λ domain cuid mid active placed apart. apart_map (woken domain cuid mid active) (woken_slot domain cuid mid active) placed apart;
  renumbered = apart_renumbered;
}
