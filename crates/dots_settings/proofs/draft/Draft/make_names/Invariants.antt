use Rattle.std.proofs.Common.{◌≡◌, map, take}
use Rattle.dots_settings.specs.Admitting.{draft_value}
use Rattle.dots_settings.specs.Settings.{name_row_of}
use Rattle.dots_settings.proofs.draft.Draft.make_names.Given as goal

abbrev pub invariant-loop-fqdn : goal.invariant-loop-fqdn
invariant-loop-fqdn l = l.names.items ≡ map (name_row_of (draft_value l.self)) (take l.fqdn-index l.self.names.items)
