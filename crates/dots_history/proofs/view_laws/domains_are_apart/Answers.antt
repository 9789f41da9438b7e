use Rattle.dots_history.proofs.Apart.{apart}
use Rattle.dots_history.proofs.Alone.{replies_alone}
use Rattle.dots_history.proofs.Isolating.{held_alone, mitigating_alone, active_alone, acl_rows_alone, plain_rows_alone, fate_alone}
use Rattle.dots_history.proofs.view_laws.domains_are_apart.Goals as goal

pub returns : goal.returns
returns c = record {
  mitigations = apart;
  replies = replies_alone;
  mitigating = mitigating_alone;
  active = active_alone;
  rows = plain_rows_alone;
  lists = acl_rows_alone;
  fates = fate_alone;
  written = held_alone;
}
