use Rattle.coap_observe.proofs.Numbers.{due_differs, notified_same, then_notified}
use Rattle.coap_observe.proofs.laws.observers_are_due_where_lists_differ.Goals as goal

pub returns : goal.returns
returns c = record { due = due_differs; notified = notified_same; after = then_notified }
