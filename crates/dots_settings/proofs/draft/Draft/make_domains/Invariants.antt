use Rattle.std.proofs.Common.{◌≡◌, map, take}
use Rattle.dots_settings.specs.Admitting.{draft_value}
use Rattle.dots_settings.specs.Settings.{domain_of}
use Rattle.dots_settings.proofs.draft.Draft.make_domains.Given as goal

abbrev pub invariant-loop-name : goal.invariant-loop-name
invariant-loop-name l = l.domains.items ≡ map (domain_of (draft_value l.self)) (take l.name-index l.self.domains.items)
