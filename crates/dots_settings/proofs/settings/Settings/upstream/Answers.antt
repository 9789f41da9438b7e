use Rattle.std.proofs.Common.{◌≡◌, ℕ, Option, IfSome, sym, ap, subst}
use Rattle.dots_settings.specs.declared.peer.Role.TheVariants as role
use Rattle.dots_settings.specs.Lookups.{role_of}
use Rattle.dots_settings.specs.Settings.{SettingsValue, IsSettings}
use Rattle.dots_settings.proofs.Lookups.{upstream_stranger}
use Rattle.dots_settings.proofs.settings.Settings.upstream.Goals as goal

pub returns-clause-valid : goal.returns-clause-valid
returns-clause-valid c = subst IsSettings c.self.view_is c.self.invariant

pub returns-clause-stranger : goal.returns-clause-stranger
returns-clause-stranger c =
    subst (λ (o : Option ℕ). IfSome o (λ peer. role_of c.args.self.now peer ≡ role.Stranger)) (sym (ap (λ (s : SettingsValue). s.upstream) c.self.view_is))
    (upstream_stranger c.args.self.now (returns-clause-valid c))
