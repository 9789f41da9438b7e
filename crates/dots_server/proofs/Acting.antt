-- A peer may act for the domain that it asks for.
use Rattle.std.proofs.Common.{◌≡◌, ◌==◌, ◌<◌, ℕ, true, nat_lt, List, length, Option, Some, None, ap, ◌∙◌, arith}
use Rattle.std.proofs.lemmas.Bool.{and_from}
use Rattle.std.proofs.lemmas.Bool.Decides.{nat_tests}
use Rattle.dots_settings.specs.Settings.{SettingsValue}
use Rattle.dots_settings.specs.Lookups.{role_of}
use Rattle.dots_history.specs.Calm.{may_act}
use Rattle.dots_server.specs.Asking.{role_with, IsOwn, domain_asked}

some_same : (a b : ℕ) → Some a ≡ Some b → a ≡ b
some_same a b e = cc

acts_with : (settings : SettingsValue) (own : Option ℕ) (cdid : Option (List ℕ)) (domain : ℕ) → domain_asked settings own cdid ≡ Some domain → domain < length settings.domains
    → may_act settings (role_with own) domain ≡ true
acts_with settings (Some d) cdid domain is small =
    let same : d ≡ domain = some_same d domain is in
    and_from (d == domain) (nat_lt domain (length settings.domains)) (grind (arith, nat_tests, same)) (grind (arith, nat_tests, small))
acts_with settings None cdid domain is small = grind (arith, nat_tests, small)

pub may_act_for : (settings : SettingsValue) (peer : ℕ) (own : Option ℕ) (cdid : Option (List ℕ)) (domain : ℕ) → IsOwn settings peer own → domain_asked settings own cdid ≡ Some domain
    → domain < length settings.domains → may_act settings (role_of settings peer) domain ≡ true
may_act_for settings peer own cdid domain is_own is small = ap (λ role. may_act settings role domain) is_own.role ∙ acts_with settings own cdid domain is small
