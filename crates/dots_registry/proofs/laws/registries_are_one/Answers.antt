use Rattle.dots_registry.proofs.Keeping.{same_live_rows, same_things, same_replies, same_scrubs, same_acls}
use Rattle.dots_registry.proofs.laws.registries_are_one.Goals as goal

pub returns : goal.returns
returns c = record { mitigations = same_live_rows; things = same_things; replies = same_replies; scrubs = same_scrubs; acls = same_acls }
